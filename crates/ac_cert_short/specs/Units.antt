-- The first column of a form whose coefficient is 1 or -1.
use Rattle.std.specs.Prelude.{◌≡◌, ◌⊎◌, ◌<◌, ℕ, ℤ, pos, negsuc, Bool, true, false}
use Rattle.ac_forms.specs.Affine.{Affine, coef}

abbrev pub IsUnit : ℤ → Type 0
IsUnit c = (c ≡ pos 1) ⊎ (c ≡ negsuc 0)

abbrev pub unit : Bool → ℤ
unit true = pos 1
unit false = negsuc 0

abbrev pub HasNoUnit : Affine → Type 0
HasNoUnit f = (j : ℕ) → ¬ (IsUnit (coef j f))

-- a column, and whether its coefficient is 1
pub record IsFirstUnit (f : Affine) (found : ℕ × Bool) : Type 0 where
  pub is : coef found.0 f ≡ unit found.1
  pub first : (j : ℕ) → j < found.0 → ¬ (IsUnit (coef j f))
