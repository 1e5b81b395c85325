use Rattle.std.proofs.Common.{◌≡◌, drop}
use Rattle.ac_omega_steps.specs.Choices.{is_common_multiple}
use Rattle.ac_omega_steps.proofs.legal.is_common_multiple.Given as goal

abbrev pub invariant-loop-row : goal.invariant-loop-row
invariant-loop-row l = is_common_multiple l.z l.m l.rows ≡ is_common_multiple l.z l.m (drop l.row-index l.rows)
