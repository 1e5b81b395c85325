use Rattle.ac_forms.proofs.RowTests.{TestHalfway}
use Rattle.ac_walk_state.proofs.holding.hold.Given as goal

abbrev pub invariant-loop-row : goal.invariant-loop-row
invariant-loop-row l = TestHalfway l.rows l.point l.row-index
