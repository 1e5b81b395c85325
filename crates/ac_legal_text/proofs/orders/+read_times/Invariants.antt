use Rattle.ac_legal_text.proofs.orders.+read_times.Given as goal

abbrev pub decreases-read_times : goal.decreases-read_times
decreases-read_times l = l.left
