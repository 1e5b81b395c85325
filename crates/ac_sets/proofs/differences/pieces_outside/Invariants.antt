use Rattle.ac_sets.proofs.Outsides.{OutsideHalfway}
use Rattle.ac_sets.proofs.differences.pieces_outside.Given as goal

abbrev pub invariant-loop-row : goal.invariant-loop-row
invariant-loop-row l = OutsideHalfway l.conj l.rows l.here l.pieces l.row-index
