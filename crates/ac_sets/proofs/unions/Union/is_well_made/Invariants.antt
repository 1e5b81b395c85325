use Rattle.ac_sets.proofs.Searches.{PiecesHalfway}
use Rattle.ac_sets.proofs.unions.Union.is_well_made.Given as goal

abbrev pub invariant-loop-piece : goal.invariant-loop-piece
invariant-loop-piece l = PiecesHalfway l.self.visible l.piece-items l.piece-index
