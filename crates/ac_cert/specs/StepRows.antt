-- What each step and branch makes, where it stands: one equation for each rule.
use Rattle.std.specs.Prelude.{◌≡◌, ◌≢◌, ℕ, ◌<◌, ◌≤◌, ℤ, pos, negsuc, neg_ℤ, ◌+ℤ◌, ◌-ℤ◌, ◌*ℤ◌, ◌≤ℤ◌, List, length, Some, true, cond, slice_get, unsigned_abs}
use Rattle.ac_base.specs.Multiple.{divides}
use Rattle.ac_forms.specs.Affine.{Affine, combined, scaled, shifted, CanCombine, FormFits}
use Rattle.ac_forms.specs.Fits.{Fits}
use Rattle.ac_forms.specs.Negation.{opposite, below, with_column}
use Rattle.ac_forms.specs.declared.conj.Conj.{Conj}
use Rattle.ac_forms.specs.declared.row.Row.{Row}
use Rattle.ac_forms.specs.declared.row.Row.TheVariants.{Eq, Div, Ge}
use Rattle.ac_cert.specs.declared.types.Step.TheVariants.{Add, Cut, DivScale, DivAdd, DivMod, DivEq, Quot, Floor, EqCut}
use Rattle.ac_cert.specs.Rules.{with_row, with_column_row, sum_from, zero_form, are_equalities, divides_each, divides_form, quotient_form, is_zero, after_step, both_sides, class, class_of}

-- the row at a place
abbrev pub IsAt : Conj → ℕ → Row → Type 0
IsAt c i r = slice_get c.rows i ≡ Some r

pub record StepRows (c : Conj) : Type 0 where
  pub add : (ts : List (ℕ × ℤ)) (f : Affine) → 0 < length ts → sum_from zero_form ts c.rows ≡ Some f → after_step (Add ts) c ≡ Some (with_row c (cond (are_equalities ts c.rows) (Eq f) (Ge f)))
  pub cut : (i : ℕ) (g : ℤ) (f : Affine) → IsAt c i (Ge f) → pos 1 ≤ℤ g → divides_each g f.coefs ≡ true → after_step (Cut i g) c ≡ Some (with_row c (Ge (quotient_form g f)))
  pub div_scale : (i : ℕ) (k m : ℤ) (f : Affine) → IsAt c i (Div m f) → k ≢ pos 0 → Fits (pos (unsigned_abs k)) → Fits (m *ℤ pos (unsigned_abs k)) → FormFits (scaled k f) → after_step (DivScale i k) c ≡ Some (with_row c (Div (m *ℤ pos (unsigned_abs k)) (scaled k f)))
  pub div_add : (i j : ℕ) (k l m : ℤ) (f g : Affine) → IsAt c i (Div m f) → IsAt c j (Div m g) → CanCombine k f l g → after_step (DivAdd i k j l) c ≡ Some (with_row c (Div m (combined k f l g)))
  pub div_mod : (i : ℕ) (g n m : ℤ) (e f : Affine) → IsAt c i (Div m e) → pos 1 ≤ℤ g → pos 1 ≤ℤ n → length f.coefs ≤ c.columns → Fits (g *ℤ n) → divides (unsigned_abs (g *ℤ n)) m ≡ true → CanCombine (pos 1) e (neg_ℤ g) f → divides_form (g *ℤ n) (combined (pos 1) e (neg_ℤ g) f) ≡ true → after_step (DivMod i g n f) c ≡ Some (with_row c (Div n f))
  pub div_eq : (i : ℕ) (n : ℤ) (f : Affine) → IsAt c i (Eq f) → pos 1 ≤ℤ n → after_step (DivEq i n) c ≡ Some (with_row c (Div n f))
  pub quot : (i : ℕ) (m : ℤ) (f : Affine) → IsAt c i (Div m f) → pos 1 ≤ℤ m → length f.coefs ≤ c.columns → after_step (Quot i) c ≡ Some (with_column_row c (Eq (with_column c.columns (neg_ℤ m) f)))
  pub floor : (m : ℤ) (f : Affine) → pos 1 ≤ℤ m → length f.coefs ≤ c.columns → FormFits (opposite f) → Fits ((opposite f).konst +ℤ (m -ℤ pos 1)) → after_step (Floor m f) c ≡ Some (with_row (with_column_row c (Ge (with_column c.columns (neg_ℤ m) f))) (Ge (with_column c.columns m (shifted (opposite f) (m -ℤ pos 1)))))
  pub eq_cut : (i j : ℕ) (f g : Affine) → IsAt c i (Ge f) → IsAt c j (Ge g) → CanCombine (pos 1) f (pos 1) g → is_zero (combined (pos 1) f (pos 1) g) ≡ true → after_step (EqCut i j) c ≡ Some (with_row c (Eq f))
  pub split : (f : Affine) → length f.coefs ≤ c.columns → FormFits (opposite f) → Fits ((opposite f).konst +ℤ negsuc 0) → both_sides f c ≡ Some (with_row c (Ge f), with_row c (Ge (below f)))
  pub residue : (m : ℤ) (f : Affine) (r : ℤ) → pos 1 ≤ℤ m → length f.coefs ≤ c.columns → Fits (f.konst -ℤ r) → class_of m f r c ≡ Some (class m f r c)
