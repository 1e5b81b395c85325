-- Which numbers of a rule stay in `i128`, from the answers of exact arithmetic.
use Rattle.std.proofs.Common.{◌≡◌, ℤ, pos, ◌+ℤ◌, ◌*ℤ◌, Bool, true, false, ◌&&◌, Some, None, refl}
use Rattle.std.specs.Prelude.{unsigned_abs}
use Rattle.ac_forms.specs.Affine.{Affine, scaled, shifted, FormFits}
use Rattle.ac_forms.specs.Fits.{Fits, fits}
use Rattle.ac_forms.specs.Negation.{opposite}
use Rattle.ac_forms.specs.RangeTests.{form_fits}
use Rattle.ac_forms.proofs.Twins.{fits-is, form_fits-is}
use Rattle.ac_omega_steps.proofs.Fitting.{combination_some, combination_none, fits_true, fits_false}
use Rattle.ac_base.proofs.Truths.{test-false}
use Rattle.ac_cert.specs.Rules.{rest_of, multiple_of, greater_modulus}

pub multiple_some : (k : ℤ) (f : Affine) → FormFits (scaled k f) → multiple_of k f ≡ Some (scaled k f)
unfolding multiple_of
multiple_some k f h = rw ((form_fits-is (scaled k f)).1 h) refl

pub multiple_none : (k : ℤ) (f : Affine) → ¬ FormFits (scaled k f) → multiple_of k f ≡ None
unfolding multiple_of
multiple_none k f h = rw (test-false (form_fits (scaled k f)) (form_fits-is (scaled k f)) h) refl

pub rest_some : (k : ℤ) (f : Affine) → FormFits (opposite f) → Fits ((opposite f).konst +ℤ k) → rest_of k f ≡ Some (shifted (opposite f) k)
unfolding rest_of
rest_some k f h g = rw ((form_fits-is (opposite f)).1 h, (fits-is ((opposite f).konst +ℤ k)).1 g) refl

and-false : (b : Bool) → (b && false) ≡ false
and-false true = refl
and-false false = refl

pub rest_none : (k : ℤ) (f : Affine) → ¬ FormFits (opposite f) → rest_of k f ≡ None
unfolding rest_of
rest_none k f h = rw (test-false (form_fits (opposite f)) (form_fits-is (opposite f)) h) refl

pub rest_wide : (k : ℤ) (f : Affine) → ¬ Fits ((opposite f).konst +ℤ k) → rest_of k f ≡ None
unfolding rest_of
rest_wide k f h = rw (test-false (fits ((opposite f).konst +ℤ k)) (fits-is ((opposite f).konst +ℤ k)) h, and-false (form_fits (opposite f))) refl

pub modulus_some : (m k : ℤ) → Fits (pos (unsigned_abs k)) → Fits (m *ℤ pos (unsigned_abs k)) → greater_modulus m k ≡ Some (m *ℤ pos (unsigned_abs k))
unfolding greater_modulus
modulus_some m k h g = rw (fits_true _ h, fits_true _ g) refl

pub modulus_none : (m k : ℤ) → ¬ Fits (pos (unsigned_abs k)) → greater_modulus m k ≡ None
unfolding greater_modulus
modulus_none m k h = rw (fits_false _ h) refl

pub modulus_wide : (m k : ℤ) → ¬ Fits (m *ℤ pos (unsigned_abs k)) → greater_modulus m k ≡ None
unfolding greater_modulus
modulus_wide m k h = rw (fits_false _ h, and-false (fits (pos (unsigned_abs k)))) refl

pub ruleset number_steps = (combination_some, combination_none, multiple_some, multiple_none, rest_some, rest_none, rest_wide, modulus_some, modulus_none, modulus_wide, fits_true, fits_false)
