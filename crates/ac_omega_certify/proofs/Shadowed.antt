-- The dark shadow of a lower and an upper row of a column, from rows that stand.
use Rattle.std.proofs.Common.{◌≡◌, ℕ, zero, suc, ◌<◌, ℤ, pos, ◌+ℤ◌, ◌-ℤ◌, ◌*ℤ◌, neg_ℤ, ◌≤ℤ◌, List, [], ◌∷◌, length, set, get_or, true, int_le, arith, refl, sym, ap, ◌∙◌, subst, to_z, of_z}
use Rattle.std.specs.Int.{w128}
use Rattle.std.specs.Int.Signed.{lt_z}
use Rattle.std.proofs.lemmas.Int.{ints}
use Rattle.ac_base.specs.Dot.{mix}
use Rattle.ac_base.proofs.Bits.{again_128}
use Rattle.ac_base.proofs.Products.{mul-add_ℤ, mul-neg_ℤ, neg-mul_ℤ}
use Rattle.ac_forms.specs.Affine.{Affine, coef, combined, shifted}
use Rattle.ac_forms.specs.Fits.{Fits}
use Rattle.ac_forms.specs.declared.conj.Conj.{Conj}
use Rattle.ac_forms.specs.declared.row.Row.TheVariants.{Ge}
use Rattle.ac_omega_steps.specs.Bounds.{is_high, low_bound, high_bound}
use Rattle.ac_omega_steps.specs.Choices.{shadow_form}
use Rattle.ac_base.proofs.Truths.{le-true}
use Rattle.ac_omega_certify.specs.Refutations.{AreWithin2To120}
use Rattle.ac_omega_certify.specs.ShadowSteps.{dark_gap}
use Rattle.ac_omega_certify.specs.TreePathRows.{raised, Leads}
use Rattle.ac_omega_certify.specs.declared.path.TreePath.{TreePath}
use Rattle.ac_omega_certify.proofs.Renaming.{none_mixed}
use Rattle.ac_omega_certify.proofs.Moderate.{turned_size}
use Rattle.ac_omega_certify.proofs.ShadowNumbers.{IsPair, opposite-fits}

has-place : (cs : List ℤ) (z : ℕ) → (get_or cs z (pos 0) ≡ pos 0 → ⊥) → z < length cs
has-place [] z h = absurd (h refl)
has-place (c ∷ cs) zero h = omega arith
has-place (c ∷ cs) (suc z) h = let l = has-place cs z h in omega arith

mix-cleared : (k l : ℤ) (xs ys : List ℤ) (z : ℕ) → z < length xs → z < length ys → k *ℤ get_or xs z (pos 0) +ℤ l *ℤ get_or ys z (pos 0) ≡ pos 0 → mix k (set xs z (pos 0)) l (set ys z (pos 0)) ≡ mix k xs l ys
mix-cleared k l [] ys z h g e = absurd (omega arith)
mix-cleared k l (x ∷ xs) [] z h g e = absurd (omega arith)
mix-cleared k l (x ∷ xs) (y ∷ ys) zero h g e = ap (λ c. c ∷ mix k xs l ys) (none_mixed k l ∙ sym e)
mix-cleared k l (x ∷ xs) (y ∷ ys) (suc z) h g e = ap (λ (cs : List ℤ). (k *ℤ x +ℤ l *ℤ y) ∷ cs) (mix-cleared k l xs ys z (omega arith) (omega arith) e)

cancelled : (x y : ℤ) → neg_ℤ y *ℤ x +ℤ x *ℤ y ≡ pos 0
cancelled x y = omega (arith, ints, neg-mul_ℤ y x)

low-not : (x : ℤ) → pos 1 ≤ℤ x → x ≡ pos 0 → ⊥
low-not x h e = omega (arith, ints, h, e)

high-not : (x : ℤ) → pos 1 ≤ℤ neg_ℤ x → x ≡ pos 0 → ⊥
high-not x h e = omega (arith, ints, h, e)

-- the column goes by itself
pub shadow-is : (z : ℕ) (f g : Affine) → pos 1 ≤ℤ coef z f → pos 1 ≤ℤ neg_ℤ (coef z g)
    → shifted (combined (neg_ℤ (coef z g)) f (coef z f) g) (neg_ℤ (dark_gap (neg_ℤ (coef z g)) (coef z f))) ≡ shadow_form (low_bound z f) (high_bound z g)
shadow-is z f g h k =
    ap (λ (cs : List ℤ). record { konst = neg_ℤ (coef z g) *ℤ f.konst +ℤ coef z f *ℤ g.konst +ℤ neg_ℤ (dark_gap (neg_ℤ (coef z g)) (coef z f)); coefs = cs })
    (sym (mix-cleared (neg_ℤ (coef z g)) (coef z f) f.coefs g.coefs z (has-place f.coefs z (low-not (coef z f) h)) (has-place g.coefs z (high-not (coef z g) k)) (cancelled (coef z f) (coef z g))))

taken-konst : (a k n y l : ℤ) → a *ℤ (k +ℤ neg_ℤ n) +ℤ y +ℤ (a *ℤ n -ℤ l) ≡ a *ℤ k +ℤ y +ℤ neg_ℤ l
taken-konst a k n y l = rw (mul-add_ℤ a k (neg_ℤ n), mul-neg_ℤ a n) (omega (arith, ints))

-- what was taken comes back
pub taken-is : (f g : Affine) (a b n : ℤ) → raised (combined a (shifted f (neg_ℤ n)) b g) (a *ℤ n -ℤ dark_gap a b) ≡ shifted (combined a f b g) (neg_ℤ (dark_gap a b))
taken-is f g a b n = ap (λ (k : ℤ). record { konst = k; coefs = mix a f.coefs b g.coefs }) (taken-konst a f.konst n (b *ℤ g.konst) (dark_gap a b))

-- as the code forms it
abbrev pub again : ℤ → ℤ
again z = to_z w128 (of_z w128 z)

pub again-is : (x y : ℤ) → x ≡ y → Fits x → again x ≡ y
again-is x y e f = again_128 x f ∙ e

pub high-size : (c : ℤ) → lt_z c (pos 0) ≡ true → pos 1 ≤ℤ neg_ℤ c
high-size c e = grind (arith, ints, e)

-- a lower row and an upper one, of rows within 2^120
pub pair-of : (z : ℕ) (f g : Affine) (n : ℤ) → AreWithin2To120 (Ge f ∷ Ge g ∷ []) [] → pos 1 ≤ℤ coef z f → is_high z g ≡ true → pos 0 ≤ℤ n → n ≤ℤ coef z f → IsPair f g (neg_ℤ (coef z g)) (coef z f) n
pair-of z f g n m l h s w =
    let low = m.rows.0 in
    let high = m.rows.1.0 in
    let o = turned_size (coef z g) in
    let k = high.factors z in
    record {
      factor = m.factor;
      number = m.number;
      product = m.product;
      low = low;
      high = high;
      size = omega arith;
      positive = high-size (coef z g) h;
      other = low.factors z;
      less = low.coefs z;
      above = l;
      some = s;
      within = w;
    }

-- nothing taken
pub plain-pair : (z : ℕ) (f g : Affine) → AreWithin2To120 (Ge f ∷ Ge g ∷ []) [] → pos 1 ≤ℤ coef z f → is_high z g ≡ true → IsPair f g (neg_ℤ (coef z g)) (coef z f) (pos 0)
plain-pair z f g m l h = pair-of z f g (pos 0) m l h (omega (arith, ints)) (omega (arith, ints, l))

pub size-fits : (z : ℕ) (f g : Affine) → AreWithin2To120 (Ge f ∷ Ge g ∷ []) [] → Fits (neg_ℤ (coef z g))
size-fits z f g m = opposite-fits g z m.factor m.number m.rows.1.0 m.product

pub pair-leads : (z : ℕ) (f g : Affine) (n : ℤ) (u : TreePath) (start path : Conj) (names : List ℕ) (i : ℕ) → pos 1 ≤ℤ coef z f → is_high z g ≡ true
    → Leads u start path names i (Ge (raised (combined (neg_ℤ (coef z g)) (shifted f (neg_ℤ n)) (coef z f) g) ((neg_ℤ (coef z g)) *ℤ n -ℤ dark_gap (neg_ℤ (coef z g)) (coef z f))))
    → Leads u start path names i (Ge (shadow_form (low_bound z f) (high_bound z g)))
pair-leads z f g n u start path names i l h s =
    subst (λ (x : Affine). Leads u start path names i (Ge x)) (taken-is f g (neg_ℤ (coef z g)) (coef z f) n ∙ shadow-is z f g l (high-size (coef z g) h)) s

pub at-least-one : (x : ℤ) → pos 1 ≤ℤ x → pos 0 ≤ℤ x
at-least-one x h = omega (arith, ints, h)

-- what is left of the multiple is not negative
pub enough-one : (n a b : ℤ) → int_le (dark_gap a b) (a *ℤ n) ≡ true → pos 0 ≤ℤ (a *ℤ n -ℤ dark_gap a b)
enough-one n a b e = let l = le-true (dark_gap a b) (a *ℤ n) e in omega (arith, ints, l)
