-- Rows that the test of equality takes for equal are equal.
use Rattle.std.proofs.Common.{◌≡◌, ℤ, true, false, ap, ◌∙◌, arith}
use Rattle.std.specs.Ordering.{int_eq}
use Rattle.std.proofs.lemmas.Int.{ints}
use Rattle.ac_forms.proofs.Joining.{lists_same, both_of}
use Rattle.ac_forms.specs.Affine.{Affine}
use Rattle.ac_forms.specs.FormOrder.{row_eq, form_eq}
use Rattle.ac_forms.specs.Ties.{row_equiv}
use Rattle.ac_forms.specs.declared.row.Row.{Row}
use Rattle.ac_forms.specs.declared.row.Row.TheVariants.{Eq, Div, Ge}
use Rattle.ac_forms.specs.declared.normal.NormalRow.TheVariants.{Kept}

same-int : (x y : ℤ) → int_eq x y ≡ true → x ≡ y
same-int x y e = grind (arith, ints, e)

same-form : (f g : Affine) → form_eq f g ≡ true → f ≡ g
same-form f g e =
    let b = both_of _ _ e in
    let cs = lists_same f.coefs g.coefs b.0 in
    let k = same-int f.konst g.konst b.1 in
    λ i. record { konst = k i; coefs = cs i }

pub same-row : (r s : Row) → row_eq r s ≡ true → r ≡ s
same-row (Eq f) (Eq g) e = ap Eq (same-form f g e)
same-row (Eq f) (Div m g) e = absurd cc
same-row (Eq f) (Ge g) e = absurd cc
same-row (Div m f) (Eq g) e = absurd cc
same-row (Div m f) (Div n g) e =
    let b = both_of (int_eq m n) (form_eq f g) e in
    ap (λ (z : ℤ). Div z f) (same-int m n b.0) ∙ ap (Div n) (same-form f g b.1)
same-row (Div m f) (Ge g) e = absurd cc
same-row (Ge f) (Eq g) e = absurd cc
same-row (Ge f) (Div m g) e = absurd cc
same-row (Ge f) (Ge g) e = ap Ge (same-form f g e)

-- and each row is taken for itself
pub row-same : (r s : Row) → r ≡ s → row_eq r s ≡ true
row-same r s e = rw e (row_equiv.refl s)

pub kept-same : (r s : Row) → Kept r ≡ Kept s → row_eq r s ≡ false → ⊥
kept-same r s k e =
    let same : r ≡ s = cc in
    let t : row_eq r s ≡ true = row-same r s same in
    cc
