use Rattle.std.proofs.Common.{◌≡◌, ◌++◌, drop}
use Rattle.ac_omega_steps.specs.Bounds.{rows_without}
use Rattle.ac_omega_steps.proofs.column.rows_without.Given as goal

abbrev pub invariant-loop-row : goal.invariant-loop-row
invariant-loop-row l = rows_without l.z l.rows ≡ l.made ++ rows_without l.z (drop l.row-index l.rows)
