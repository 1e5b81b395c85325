-- What stays in `i128`, from the answers of exact arithmetic.
use Rattle.std.proofs.Common.{◌≡◌, ◌↔◌, ℤ, ◌+ℤ◌, ◌*ℤ◌, List, Bool, true, false, ◌&&◌, Some, None, refl}
use Rattle.ac_forms.specs.Affine.{Affine, mix_numbers, combined, CanCombine, CanEvaluate}
use Rattle.ac_forms.specs.Fits.{Fits, fits, all_fit}
use Rattle.ac_forms.specs.RangeTests.{can_combine, can_evaluate}
use Rattle.ac_forms.proofs.Twins.{fits-is, and-is, all_fit-is, can_evaluate-is}
use Rattle.ac_omega_steps.specs.Combination.{combination}
use Rattle.ac_base.proofs.Truths.{test-false}

and-three : {P Q R : Type 0} (a b c : Bool) → (a ≡ true) ↔ P → (b ≡ true) ↔ Q → (c ≡ true) ↔ R → ((a && (b && c)) ≡ true) ↔ (P × Q × R)
and-three true true c h k l = ((λ e. (h.0 refl, k.0 refl, l.0 e)), (λ t. l.1 t.2))
and-three true false c h k l = ((λ e. absurd cc), (λ t. k.1 t.1))
and-three false b c h k l = ((λ e. absurd cc), (λ t. h.1 t.0))

can_combine-is : (k : ℤ) (f : Affine) (l : ℤ) (g : Affine) → (can_combine k f l g ≡ true) ↔ CanCombine k f l g
can_combine-is k f l g =
    and-is (all_fit (mix_numbers k f.coefs l g.coefs)) (fits (k *ℤ f.konst) && (fits (l *ℤ g.konst) && fits (k *ℤ f.konst +ℤ l *ℤ g.konst))) (all_fit-is (mix_numbers k f.coefs l g.coefs))
    (and-three (fits (k *ℤ f.konst)) (fits (l *ℤ g.konst)) (fits (k *ℤ f.konst +ℤ l *ℤ g.konst)) (fits-is (k *ℤ f.konst)) (fits-is (l *ℤ g.konst)) (fits-is (k *ℤ f.konst +ℤ l *ℤ g.konst)))

pub combination_some : (k : ℤ) (f : Affine) (l : ℤ) (g : Affine) → CanCombine k f l g → combination k f l g ≡ Some (combined k f l g)
unfolding combination
combination_some k f l g h = rw ((can_combine-is k f l g).1 h) refl

pub combination_none : (k : ℤ) (f : Affine) (l : ℤ) (g : Affine) → ¬ CanCombine k f l g → combination k f l g ≡ None
unfolding combination
combination_none k f l g h = rw (test-false (can_combine k f l g) (can_combine-is k f l g) h) refl

pub fits_true : (z : ℤ) → Fits z → fits z ≡ true
fits_true z h = (fits-is z).1 h

pub fits_false : (z : ℤ) → ¬ Fits z → fits z ≡ false
fits_false z h = test-false (fits z) (fits-is z) h

pub evaluate_true : (f : Affine) (p : List ℤ) → CanEvaluate f p → can_evaluate f p ≡ true
evaluate_true f p h = (can_evaluate-is f p).1 h

pub evaluate_false : (f : Affine) (p : List ℤ) → ¬ CanEvaluate f p → can_evaluate f p ≡ false
evaluate_false f p h = test-false (can_evaluate f p) (can_evaluate-is f p) h

pub true_fits : (z : ℤ) → fits z ≡ true → Fits z
true_fits z h = (fits-is z).0 h
