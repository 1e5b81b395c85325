use Rattle.std.proofs.Common.{ℕ, ◌<◌}
use Rattle.ac_forms.specs.Affine.{coef}
use Rattle.ac_cert_short.specs.Units.{IsUnit}
use Rattle.ac_cert_short.proofs.units.unit_column.Given as goal

abbrev pub invariant-loop-column : goal.invariant-loop-column
invariant-loop-column l = (j : ℕ) → j < l.column → ¬ (IsUnit (coef j l.form))
