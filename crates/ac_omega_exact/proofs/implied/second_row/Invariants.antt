use Rattle.std.proofs.Common.{◌≡◌, drop}
use Rattle.ac_omega_steps.specs.Bounds.{rows_without}
use Rattle.ac_omega_exact.specs.ExactnessTests.{is_implied_with}
use Rattle.ac_omega_exact.proofs.implied.second_row.Given as goal

abbrev pub invariant-loop-i : goal.invariant-loop-i
invariant-loop-i l = is_implied_with l.first (rows_without l.z l.rows) l.wanted ≡ is_implied_with l.first (rows_without l.z (drop l.i l.rows)) l.wanted
