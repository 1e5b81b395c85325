-- The rows of each step and branch, where it stands.
use Rattle.std.proofs.Common.{◌≡◌, ℕ, ◌<◌, ◌≤◌, ℤ, pos, negsuc, ◌+ℤ◌, ◌-ℤ◌, ◌*ℤ◌, neg_ℤ, ◌≤ℤ◌, List, length, Some, true, false, cond, nat_eq, slice_get, refl, arith}
use Rattle.std.specs.Prelude.{◌≢◌, unsigned_abs}
use Rattle.std.specs.Ordering.{int_eq}
use Rattle.std.proofs.lemmas.Bool.Decides.{Decides-int_eq}
use Rattle.ac_base.specs.Multiple.{divides}
use Rattle.ac_forms.specs.Affine.{Affine, combined, scaled, shifted, CanCombine, FormFits}
use Rattle.ac_forms.specs.Fits.{Fits}
use Rattle.ac_forms.specs.Negation.{opposite, below, with_column}
use Rattle.ac_forms.specs.declared.conj.Conj.{Conj}
use Rattle.ac_forms.specs.declared.row.Row.TheVariants.{Eq, Div, Ge}
use Rattle.ac_base.proofs.Truths.{test-false, true-le, true-nat_le}
use Rattle.ac_omega_steps.proofs.Fitting.{combination_some, fits_true}
use Rattle.ac_cert.specs.declared.types.Step.TheVariants.{Add, Cut, DivScale, DivAdd, DivMod, DivEq, Quot, Floor, EqCut}
use Rattle.ac_cert.specs.Rules.{with_row, with_column_row, sum_from, sum_row, zero_form, are_equalities, divides_each, divides_form, quotient_form, is_zero, div_mod_stands, less_column, floor_of, after_step, side_rows, both_sides, has_class, class, class_of}
use Rattle.ac_cert.specs.StepRows.{StepRows}
use Rattle.ac_cert.proofs.Fitting.{multiple_some, rest_some, modulus_some}

not-empty : (n : ℕ) → 0 < n → nat_eq n 0 ≡ false
not-empty n l = grind (arith, l)

pub add-row : (c : Conj) (ts : List (ℕ × ℤ)) (f : Affine) → 0 < length ts → sum_from zero_form ts c.rows ≡ Some f → after_step (Add ts) c ≡ Some (with_row c (cond (are_equalities ts c.rows) (Eq f) (Ge f)))
unfolding after_step sum_row
add-row c ts f l e = rw (not-empty (length ts) l, e) refl

pub cut-row : (c : Conj) (i : ℕ) (g : ℤ) (f : Affine) → slice_get c.rows i ≡ Some (Ge f) → pos 1 ≤ℤ g → divides_each g f.coefs ≡ true → after_step (Cut i g) c ≡ Some (with_row c (Ge (quotient_form g f)))
unfolding after_step
cut-row c i g f at a d = rw (at, true-le (pos 1) g a, d) refl

pub div_scale-row : (c : Conj) (i : ℕ) (k m : ℤ) (f : Affine) → slice_get c.rows i ≡ Some (Div m f) → k ≢ pos 0 → Fits (pos (unsigned_abs k)) → Fits (m *ℤ pos (unsigned_abs k)) → FormFits (scaled k f) → after_step (DivScale i k) c ≡ Some (with_row c (Div (m *ℤ pos (unsigned_abs k)) (scaled k f)))
unfolding after_step
div_scale-row c i k m f at n a b h = rw (at, test-false (int_eq k (pos 0)) (Decides-int_eq k (pos 0)) n, modulus_some m k a b, multiple_some k f h) refl

pub div_add-row : (c : Conj) (i j : ℕ) (k l m : ℤ) (f g : Affine) → slice_get c.rows i ≡ Some (Div m f) → slice_get c.rows j ≡ Some (Div m g) → CanCombine k f l g → after_step (DivAdd i k j l) c ≡ Some (with_row c (Div m (combined k f l g)))
unfolding after_step
div_add-row c i j k l m f g at and h = rw (at, and, (Decides-int_eq m m).1 refl, combination_some k f l g h) refl

pub div_mod-row : (c : Conj) (i : ℕ) (g n m : ℤ) (e f : Affine) → slice_get c.rows i ≡ Some (Div m e) → pos 1 ≤ℤ g → pos 1 ≤ℤ n → length f.coefs ≤ c.columns → Fits (g *ℤ n) → divides (unsigned_abs (g *ℤ n)) m ≡ true → CanCombine (pos 1) e (neg_ℤ g) f → divides_form (g *ℤ n) (combined (pos 1) e (neg_ℤ g) f) ≡ true → after_step (DivMod i g n f) c ≡ Some (with_row c (Div n f))
unfolding after_step div_mod_stands
div_mod-row c i g n m e f at a b l h d s t = rw (at, true-le (pos 1) g a, true-le (pos 1) n b, true-nat_le (length f.coefs) c.columns l, fits_true (g *ℤ n) h, d, combination_some (pos 1) e (neg_ℤ g) f s, t) refl

pub div_eq-row : (c : Conj) (i : ℕ) (n : ℤ) (f : Affine) → slice_get c.rows i ≡ Some (Eq f) → pos 1 ≤ℤ n → after_step (DivEq i n) c ≡ Some (with_row c (Div n f))
unfolding after_step
div_eq-row c i n f at a = rw (at, true-le (pos 1) n a) refl

pub quot-row : (c : Conj) (i : ℕ) (m : ℤ) (f : Affine) → slice_get c.rows i ≡ Some (Div m f) → pos 1 ≤ℤ m → length f.coefs ≤ c.columns → after_step (Quot i) c ≡ Some (with_column_row c (Eq (with_column c.columns (neg_ℤ m) f)))
unfolding after_step less_column
quot-row c i m f at a l = rw (at, true-le (pos 1) m a, true-nat_le (length f.coefs) c.columns l) refl

pub floor-rows : (c : Conj) (m : ℤ) (f : Affine) → pos 1 ≤ℤ m → length f.coefs ≤ c.columns → FormFits (opposite f) → Fits ((opposite f).konst +ℤ (m -ℤ pos 1)) → after_step (Floor m f) c ≡ Some (with_row (with_column_row c (Ge (with_column c.columns (neg_ℤ m) f))) (Ge (with_column c.columns m (shifted (opposite f) (m -ℤ pos 1)))))
unfolding after_step floor_of less_column
floor-rows c m f a l h g = rw (true-le (pos 1) m a, true-nat_le (length f.coefs) c.columns l, rest_some (m -ℤ pos 1) f h g) refl

pub eq_cut-row : (c : Conj) (i j : ℕ) (f g : Affine) → slice_get c.rows i ≡ Some (Ge f) → slice_get c.rows j ≡ Some (Ge g) → CanCombine (pos 1) f (pos 1) g → is_zero (combined (pos 1) f (pos 1) g) ≡ true → after_step (EqCut i j) c ≡ Some (with_row c (Eq f))
unfolding after_step
eq_cut-row c i j f g at and h z = rw (at, and, combination_some (pos 1) f (pos 1) g h, z) refl

pub split-rows : (c : Conj) (f : Affine) → length f.coefs ≤ c.columns → FormFits (opposite f) → Fits ((opposite f).konst +ℤ negsuc 0) → both_sides f c ≡ Some (with_row c (Ge f), with_row c (Ge (below f)))
unfolding side_rows
split-rows c f l h g = rw (true-nat_le (length f.coefs) c.columns l, rest_some (negsuc 0) f h g) refl

pub residue-row : (c : Conj) (m : ℤ) (f : Affine) (r : ℤ) → pos 1 ≤ℤ m → length f.coefs ≤ c.columns → Fits (f.konst -ℤ r) → class_of m f r c ≡ Some (class m f r c)
unfolding has_class
residue-row c m f r a l h = rw (true-le (pos 1) m a, true-nat_le (length f.coefs) c.columns l, fits_true (f.konst -ℤ r) h) refl

pub rows-of_each_rule : (c : Conj) → StepRows c
rows-of_each_rule c = record {
  add = add-row c;
  cut = cut-row c;
  div_scale = div_scale-row c;
  div_add = div_add-row c;
  div_mod = div_mod-row c;
  div_eq = div_eq-row c;
  quot = quot-row c;
  floor = floor-rows c;
  eq_cut = eq_cut-row c;
  split = split-rows c;
  residue = residue-row c;
}
