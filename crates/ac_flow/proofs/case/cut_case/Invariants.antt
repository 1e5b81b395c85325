use Rattle.ac_flow.proofs.Remains.{CutHalfway}
use Rattle.ac_flow.proofs.case.cut_case.Given as goal

abbrev pub invariant-loop-found : goal.invariant-loop-found
invariant-loop-found l = CutHalfway l.case l.kills l.room l.pieces l.found-index
