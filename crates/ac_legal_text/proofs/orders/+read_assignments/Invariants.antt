use Rattle.std.proofs.Common.{◌-◌, length}
use Rattle.ac_legal_text.proofs.orders.+read_assignments.Given as goal

abbrev pub decreases-read_assignments : goal.decreases-read_assignments
decreases-read_assignments l = length l.m.now.stmts - l.number
