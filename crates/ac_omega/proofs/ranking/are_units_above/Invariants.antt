use Rattle.std.proofs.Common.{◌≡◌, drop}
use Rattle.ac_omega_steps.specs.Bounds.{highs}
use Rattle.ac_omega.specs.ColumnChoice.{are_units}
use Rattle.ac_omega.proofs.ranking.are_units_above.Given as goal

abbrev pub invariant-loop-row : goal.invariant-loop-row
invariant-loop-row l = are_units (highs l.z l.rows) ≡ are_units (highs l.z (drop l.row-index l.rows))
