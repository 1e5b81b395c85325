use Rattle.std.proofs.Common.{◌≡◌, drop}
use Rattle.ac_omega_steps.specs.Bounds.{only_bounds}
use Rattle.ac_omega_steps.proofs.column.only_bounds.Given as goal

abbrev pub invariant-loop-row : goal.invariant-loop-row
invariant-loop-row l = only_bounds l.z l.rows ≡ only_bounds l.z (drop l.row-index l.rows)
