use Rattle.ac_flow.proofs.CutLoops.{OutsideHalfway}
use Rattle.ac_flow.proofs.cut.keep_outside.Given as goal

abbrev pub invariant-loop-row : goal.invariant-loop-row
invariant-loop-row l = OutsideHalfway l.conj l.kill l.room l.here l.fn.kept l.kept l.row-index
