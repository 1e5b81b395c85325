use Rattle.std.proofs.Common.{drop}
use Rattle.ac_omega.proofs.Totals.{TotalSoFar}
use Rattle.ac_omega.proofs.fewest.splinters_of.Given as goal

abbrev pub invariant-loop-row : goal.invariant-loop-row
invariant-loop-row l = TotalSoFar l.z l.total l.rows (drop l.row-index l.rows)
