-- What each step of a plan adds to the rows, and under which condition: a rule for each step. The numbers that a rule names stay in `i128`.
use Rattle.std.specs.Prelude.{ℕ, ◌≡◌, ◌≢◌, ◌<◌, ◌≤◌, ℤ, pos, negsuc, neg_ℤ, ◌+ℤ◌, ◌-ℤ◌, ◌*ℤ◌, ◌≤ℤ◌, List, length, Some, true, cond, unsigned_abs}
use Rattle.ac_base.specs.Multiple.{divides}
use Rattle.ac_forms.specs.Affine.{Affine, CanCombine, FormFits, combined, scaled, shifted}
use Rattle.ac_forms.specs.Fits.{Fits}
use Rattle.ac_forms.specs.Negation.{opposite, with_column}
use Rattle.ac_forms.specs.declared.conj.Conj.{Conj}
use Rattle.ac_forms.specs.declared.row.Row.TheVariants.{Eq, Div, Ge}
use Rattle.ac_cert.specs.Rules.{are_equalities, divides_each, divides_form, is_zero, quotient_form, sum_from, with_column_row, with_row, zero_form}
use Rattle.ac_cert.specs.StepRows.{IsAt}
use Rattle.ac_cert.specs.declared.types.Step.{Step}
use Rattle.ac_cert.specs.declared.types.Step.TheVariants.{Add, Cut, DivScale, DivAdd, DivMod, DivEq, Quot, Floor, EqCut}

pub data Adds (c : Conj) : Step → Conj → Type 0 where
  -- the sum of multiples of `Eq` and `Ge` rows, those of `Ge` rows not negative; an `Eq` row if all are
  add : (terms : List (ℕ × ℤ)) (f : Affine) → 0 < length terms → sum_from zero_form terms c.rows ≡ Some f → Adds c (Add terms) (with_row c (cond (are_equalities terms c.rows) (Eq f) (Ge f)))
  -- a `Ge` row divided by a number that divides its coefficients, the constant rounded down
  cut : (r : ℕ) (g : ℤ) (f : Affine) → IsAt c r (Ge f) → pos 1 ≤ℤ g → divides_each g f.coefs ≡ true → Adds c (Cut r g) (with_row c (Ge (quotient_form g f)))
  -- a `Div` row times a number other than 0
  div_scale : (r : ℕ) (k m : ℤ) (f : Affine) → IsAt c r (Div m f) → k ≢ pos 0 → Fits (pos (unsigned_abs k)) → Fits (m *ℤ pos (unsigned_abs k)) → FormFits (scaled k f)
      → Adds c (DivScale r k) (with_row c (Div (m *ℤ pos (unsigned_abs k)) (scaled k f)))
  -- a combination of two `Div` rows with one modulus
  div_add : (r s : ℕ) (k l m : ℤ) (e f : Affine) → IsAt c r (Div m e) → IsAt c s (Div m f) → CanCombine k e l f → Adds c (DivAdd r k s l) (with_row c (Div m (combined k e l f)))
  -- n divides f, if the product of g and n divides the modulus of a `Div` row and each number of its form less g times f
  div_mod : (r : ℕ) (g n m : ℤ) (e f : Affine) → IsAt c r (Div m e) → pos 1 ≤ℤ g → pos 1 ≤ℤ n → length f.coefs ≤ c.columns → Fits (g *ℤ n) → divides (unsigned_abs (g *ℤ n)) m ≡ true
      → CanCombine (pos 1) e (neg_ℤ g) f → divides_form (g *ℤ n) (combined (pos 1) e (neg_ℤ g) f) ≡ true → Adds c (DivMod r g n f) (with_row c (Div n f))
  -- a positive number divides the form of an `Eq` row
  div_eq : (r : ℕ) (n : ℤ) (f : Affine) → IsAt c r (Eq f) → pos 1 ≤ℤ n → Adds c (DivEq r n) (with_row c (Div n f))
  -- a further column, the quotient of a `Div` row
  quot : (r : ℕ) (m : ℤ) (f : Affine) → IsAt c r (Div m f) → pos 1 ≤ℤ m → length f.coefs ≤ c.columns → Adds c (Quot r) (with_column_row c (Eq (with_column c.columns (neg_ℤ m) f)))
  -- a further column, the quotient of a form by a positive number, rounded down
  floor : (m : ℤ) (f : Affine) → pos 1 ≤ℤ m → length f.coefs ≤ c.columns → FormFits (opposite f) → Fits ((opposite f).konst +ℤ (m -ℤ pos 1))
      → Adds c (Floor m f) (with_row (with_column_row c (Ge (with_column c.columns (neg_ℤ m) f))) (Ge (with_column c.columns m (shifted (opposite f) (m -ℤ pos 1)))))
  -- two opposite `Ge` rows are equalities
  eq_cut : (r s : ℕ) (e f : Affine) → IsAt c r (Ge e) → IsAt c s (Ge f) → CanCombine (pos 1) e (pos 1) f → is_zero (combined (pos 1) e (pos 1) f) ≡ true → Adds c (EqCut r s) (with_row c (Eq e))

-- ---- branches on rows

-- both sides of a split can be made: the form is over the columns, and so is minus the form less 1
pub record CanSplit (f : Affine) (c : Conj) : Type 0 where
  pub columns : length f.coefs ≤ c.columns
  pub opposite_fits : FormFits (opposite f)
  pub below_fits : Fits ((opposite f).konst +ℤ negsuc 0)

-- a residue branch has as many children as its modulus says, which is at least 1, and the last of them can be made
pub record IsPartition (m : ℤ) (f : Affine) (c : Conj) (count : ℕ) : Type 0 where
  pub children : m ≡ pos count
  pub positive : pos 1 ≤ℤ m
  pub columns : length f.coefs ≤ c.columns
  pub last : Fits (f.konst -ℤ (m -ℤ pos 1))
