use Rattle.std.proofs.Common.{drop}
use Rattle.ac_omega.proofs.Sides.{GreatestSoFar}
use Rattle.ac_omega.proofs.scan.greatest_size.Given as goal

abbrev pub invariant-loop-row : goal.invariant-loop-row
invariant-loop-row l = GreatestSoFar l.z l.greatest l.rows (drop l.row-index l.rows)
