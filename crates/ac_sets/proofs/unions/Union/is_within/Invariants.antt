use Rattle.ac_sets.proofs.Searches.{WithinHalfway}
use Rattle.ac_sets.proofs.unions.Union.is_within.Given as goal

abbrev pub invariant-loop-piece : goal.invariant-loop-piece
invariant-loop-piece l = WithinHalfway l.columns l.piece-items l.piece-index
