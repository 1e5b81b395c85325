-- When the end `Absurd` is refused.
use Rattle.std.specs.Prelude.{ℕ, Bool, false, not, ◌&&◌, pos, Option, Some, None, cond, slice_get, unsigned_abs}
use Rattle.std.specs.Int.Signed.{lt_z}
use Rattle.std.specs.Ordering.{int_eq}
use Rattle.ac_base.specs.Multiple.{divides}
use Rattle.ac_forms.specs.Rows.{form_of}
use Rattle.ac_forms.specs.declared.conj.Conj.{Conj}
use Rattle.ac_forms.specs.declared.row.Row.{Row}
use Rattle.ac_forms.specs.declared.row.Row.TheVariants.{Eq, Div, Ge}
use Rattle.ac_cert.specs.declared.types.Rule.{Rule}
use Rattle.ac_cert.specs.declared.types.Rule.TheVariants as rule
use Rattle.ac_cert.specs.Rules.{all_zero}

-- the row does not hold where its form is worth its constant
abbrev pub is_false : Row → Bool
is_false (Eq f) = not (int_eq f.konst (pos 0))
is_false (Div m f) = not (divides (unsigned_abs m) f.konst)
is_false (Ge f) = lt_z f.konst (pos 0)

-- the row is there, has no coefficients and is false
abbrev pub is_absurd : Option Row → Bool
is_absurd None = false
is_absurd (Some r) = all_zero (form_of r).coefs && is_false r

abbrev pub absurd_refusal : ℕ → Conj → Option Rule
absurd_refusal row c = cond (is_absurd (slice_get c.rows row)) None (Some rule.Absurd)
