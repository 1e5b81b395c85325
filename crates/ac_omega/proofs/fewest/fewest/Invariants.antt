use Rattle.std.proofs.Common.{drop}
use Rattle.ac_omega.proofs.Totals.{IsBestSoFar}
use Rattle.ac_omega.proofs.fewest.fewest.Given as goal

abbrev pub invariant-loop-z : goal.invariant-loop-z
invariant-loop-z l = IsBestSoFar l.vars l.rows l.best (drop l.z-index l.vars)
