use Rattle.ac_sets.proofs.Searches.{SearchHalfway}
use Rattle.ac_sets.proofs.unions.Union.contains.Given as goal

abbrev pub invariant-loop-piece : goal.invariant-loop-piece
invariant-loop-piece l = SearchHalfway l.piece-items l.point l.piece-index
