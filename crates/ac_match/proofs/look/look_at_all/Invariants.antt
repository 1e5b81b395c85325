use Rattle.ac_match.proofs.Looks.{ScanHalfway}
use Rattle.ac_match.proofs.look.look_at_all.Given as goal

abbrev pub invariant-loop-partial : goal.invariant-loop-partial
invariant-loop-partial l = ScanHalfway l.refuted l.assigned l.partial-index
