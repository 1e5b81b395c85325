use Rattle.std.proofs.Common.{◌≡◌, drop}
use Rattle.ac_omega_steps.specs.Bounds.{is_none, lows}
use Rattle.ac_omega.proofs.scan.has_no_lower.Given as goal

abbrev pub invariant-loop-row : goal.invariant-loop-row
invariant-loop-row l = is_none (lows l.z l.rows) ≡ is_none (lows l.z (drop l.row-index l.rows))
