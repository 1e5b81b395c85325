-- Each test is true exactly where its condition holds.
use Rattle.std.proofs.Common.{◌≡◌, ◌↔◌, ℕ, ◌<◌, ◌^◌, ℤ, pos, negsuc, ◌+ℤ◌, ◌*ℤ◌, List, [], ◌∷◌, Bool, true, false, ◌&&◌, nat_lt, refl, arith}
use Rattle.std.proofs.lemmas.Int.{ints}
use borrow.Author.Tests.{lt-ltb, ltb-true}
use Rattle.ac_forms.specs.Affine.{Affine, value_at, partial_sums, mix_numbers, FormFits, CanEvaluate, CanCombine}
use Rattle.ac_forms.specs.Fits.{Fits, AllFit, fits, all_fit}
use Rattle.ac_forms.specs.NormalForm.{RowsFit}
use Rattle.ac_forms.specs.NormalRows.{absolutes, eq_numbers, NormalFits}
use Rattle.ac_forms.specs.RangeTests.{form_fits, can_evaluate, can_combine, normal_fits, rows_fit}
use Rattle.ac_forms.specs.declared.row.Row.{Row}
use Rattle.ac_forms.specs.declared.row.Row.TheVariants.{Eq, Div, Ge}

pub fits-is : (z : ℤ) → (fits z ≡ true) ↔ Fits z
fits-is (pos n) = ((λ e. record { sfits = ltb-true n (2 ^ 127) e }), (λ h. lt-ltb n (2 ^ 127) h.sfits))
fits-is (negsuc n) = ((λ e. record { sfits = ltb-true n (2 ^ 127) e }), (λ h. lt-ltb n (2 ^ 127) h.sfits))

pub and-is : {P Q : Type 0} (a b : Bool) → (a ≡ true) ↔ P → (b ≡ true) ↔ Q → ((a && b) ≡ true) ↔ (P × Q)
and-is true b h k = ((λ e. (h.0 refl, k.0 e)), (λ t. k.1 t.1))
and-is false b h k = ((λ e. absurd cc), (λ t. h.1 t.0))

pub all_fit-is : (cs : List ℤ) → (all_fit cs ≡ true) ↔ AllFit cs
all_fit-is [] = ((λ _. tt), (λ _. refl))
all_fit-is (c ∷ cs) = and-is (fits c) (all_fit cs) (fits-is c) (all_fit-is cs)

pub form_fits-is : (f : Affine) → (form_fits f ≡ true) ↔ FormFits f
form_fits-is f = and-is (all_fit f.coefs) (fits f.konst) (all_fit-is f.coefs) (fits-is f.konst)

pub can_evaluate-is : (f : Affine) (p : List ℤ) → (can_evaluate f p ≡ true) ↔ CanEvaluate f p
can_evaluate-is f p =
    and-is (all_fit (partial_sums (pos 0) f.coefs p)) (fits (value_at f p)) (all_fit-is (partial_sums (pos 0) f.coefs p)) (fits-is (value_at f p))

pub normal_fits-is : (r : Row) → (normal_fits r ≡ true) ↔ NormalFits r
normal_fits-is (Eq f) = and-is (all_fit (absolutes f.coefs)) (all_fit (eq_numbers f)) (all_fit-is (absolutes f.coefs)) (all_fit-is (eq_numbers f))
normal_fits-is (Div m f) = ((λ _. tt), (λ _. refl))
normal_fits-is (Ge f) = all_fit-is (absolutes f.coefs)

pub rows_fit-is : (rs : List Row) → (rows_fit rs ≡ true) ↔ RowsFit rs
rows_fit-is [] = ((λ _. tt), (λ _. refl))
rows_fit-is (r ∷ rs) = and-is (normal_fits r) (rows_fit rs) (normal_fits-is r) (rows_fit-is rs)
