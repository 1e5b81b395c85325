use Rattle.ac_flow.proofs.Remains.{ByHalfway}
use Rattle.ac_flow.proofs.case.cut_by_pieces.Given as goal

abbrev pub invariant-loop-piece : goal.invariant-loop-piece
invariant-loop-piece l = ByHalfway l.columns l.room l.fn.kept l.found l.kept l.piece-index
