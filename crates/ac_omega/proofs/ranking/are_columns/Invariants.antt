use Rattle.ac_omega.proofs.ColumnTests.{TestedHalfway}
use Rattle.ac_omega.proofs.ranking.are_columns.Given as goal

abbrev pub invariant-loop-z : goal.invariant-loop-z
invariant-loop-z l = TestedHalfway l.columns l.vars l.z-index
