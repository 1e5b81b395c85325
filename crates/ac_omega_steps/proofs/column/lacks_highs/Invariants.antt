use Rattle.std.proofs.Common.{◌≡◌, drop}
use Rattle.ac_omega_steps.specs.Bounds.{is_none, highs}
use Rattle.ac_omega_steps.proofs.column.lacks_highs.Given as goal

abbrev pub invariant-loop-row : goal.invariant-loop-row
invariant-loop-row l = is_none (highs l.z l.rows) ≡ is_none (highs l.z (drop l.row-index l.rows))
