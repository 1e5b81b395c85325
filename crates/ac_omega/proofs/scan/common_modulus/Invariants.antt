use Rattle.std.proofs.Common.{◌≡◌, ◌<◌, drop}
use Rattle.ac_forms.specs.Rows.{HaveModuli}
use Rattle.ac_omega_certify.specs.Alternatives.{common_modulus}
use Rattle.ac_omega.proofs.scan.common_modulus.Given as goal

abbrev pub invariant-loop-row : goal.invariant-loop-row
invariant-loop-row l = record {
  value : common_modulus l.z 1 l.rows ≡ common_modulus l.z l.multiple (drop l.row-index l.rows);
  positive : 0 < l.multiple;
  moduli : HaveModuli (drop l.row-index l.rows);
}
