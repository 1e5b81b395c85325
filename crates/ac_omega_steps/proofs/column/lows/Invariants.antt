use Rattle.std.proofs.Common.{◌≡◌, ◌++◌, drop}
use Rattle.ac_omega_steps.specs.Bounds.{lows}
use Rattle.ac_omega_steps.proofs.column.lows.Given as goal

abbrev pub invariant-loop-row : goal.invariant-loop-row
invariant-loop-row l = lows l.z l.rows ≡ l.made ++ lows l.z (drop l.row-index l.rows)
