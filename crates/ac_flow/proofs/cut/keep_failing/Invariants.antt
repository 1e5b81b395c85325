use Rattle.ac_flow.proofs.CutLoops.{FailingHalfway}
use Rattle.ac_flow.proofs.cut.keep_failing.Given as goal

abbrev pub invariant-loop-part : goal.invariant-loop-part
invariant-loop-part l = FailingHalfway l.here l.part-items l.room l.fn.kept l.kept l.part-index
