use Rattle.std.proofs.Common.{drop}
use Rattle.ac_omega_steps.specs.Bounds.{low_bound}
use Rattle.ac_omega_exact.specs.ExactnessTests.{is_exact}
use Rattle.ac_omega_exact.proofs.Needed.{NeedSoFar}
use Rattle.ac_omega_exact.proofs.needs.needed_size.Given as goal

abbrev pub invariant-loop-row : goal.invariant-loop-row
invariant-loop-row l = NeedSoFar (is_exact l.z l.rows (low_bound l.z l.low)) (low_bound l.z l.low) l.z l.need l.rows (drop l.row-index l.rows)
