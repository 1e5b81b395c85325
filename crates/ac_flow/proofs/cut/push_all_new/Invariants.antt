use Rattle.ac_flow.proofs.CutLoops.{NewHalfway}
use Rattle.ac_flow.proofs.cut.push_all_new.Given as goal

abbrev pub invariant-loop-row : goal.invariant-loop-row
invariant-loop-row l = NewHalfway l.fn.rows l.rows l.more l.row-index
