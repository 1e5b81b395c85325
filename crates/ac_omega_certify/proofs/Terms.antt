-- The sum of multiples of two rows that stand.
use Rattle.std.proofs.Common.{◌≡◌, ℕ, ℤ, pos, ◌+ℤ◌, ◌*ℤ◌, List, [], ◌∷◌, Some, true, cond, ◌&&◌, slice_get, refl, sym, ap, ◌∙◌, arith}
use Rattle.std.proofs.lemmas.Int.{ints}
use Rattle.ac_base.proofs.Columns.{get_or-mix}
use Rattle.ac_forms.specs.Affine.{Affine, coef, combined, MixFits}
use Rattle.ac_forms.specs.Fits.{Fits}
use Rattle.ac_forms.specs.Rows.{form_of}
use Rattle.ac_forms.specs.declared.conj.Conj.{Conj}
use Rattle.ac_forms.specs.declared.row.Row.{Row}
use Rattle.ac_forms.specs.declared.row.Row.TheVariants.{Eq, Div, Ge}
use Rattle.ac_cert.specs.declared.types.Step.TheVariants.{Add}
use Rattle.ac_cert.specs.Rules.{term_form, sum_from, zero_form, is_equality, after_step, with_row}
use Rattle.ac_cert.proofs.Equations.{add-row}
use Rattle.ac_omega_steps.proofs.Fitting.{combination_some}
use Rattle.ac_base.proofs.Truths.{true-le}
use Rattle.ac_forms.specs.Renaming.{with_form}
use Rattle.ac_omega_certify.specs.TreePathRows.{Renames, Alike, Blends, StandsAt, CanAdd, sum_of}
use Rattle.ac_omega_certify.proofs.Renaming.{fits-zero, blends-can, renames-combined, renames-blends, alike-renames}

pub once : (x : ℤ) → pos 1 *ℤ x ≡ x
once x = omega (arith, ints)

from_none : (k x : ℤ) → pos 1 *ℤ pos 0 +ℤ k *ℤ x ≡ k *ℤ x
from_none k x = omega (arith, ints)

-- the first multiple
first_fits : (k x : ℤ) → Fits (k *ℤ x) → MixFits (pos 1) (pos 0) k x
first_fits k x h = rw (from_none k x, once (pos 0)) (fits-zero, h, h)

further_fits : (k x l y s : ℤ) → s ≡ k *ℤ x → MixFits k x l y → MixFits (pos 1) s l y
further_fits k x l y s e h = rw (once s, e) h

first_blends : (k : ℤ) (f : Affine) (l : ℤ) (g : Affine) → Blends k f l g → Blends (pos 1) zero_form k f
first_blends k f l g h = record { konst = first_fits k f.konst h.konst.0; coefs = λ j. first_fits k (coef j f) (h.coefs j).0 }

first_coef : (k : ℤ) (f : Affine) (j : ℕ) → coef j (combined (pos 1) zero_form k f) ≡ k *ℤ coef j f
first_coef k f j = get_or-mix (pos 1) [] k f.coefs j ∙ from_none k (coef j f)

further_blends : (k : ℤ) (f : Affine) (l : ℤ) (g : Affine) → Blends k f l g → Blends (pos 1) (combined (pos 1) zero_form k f) l g
further_blends k f l g h = record {
  konst = further_fits k f.konst l g.konst _ (from_none k f.konst) h.konst;
  coefs = λ j. further_fits k (coef j f) l (coef j g) _ (first_coef k f j) (h.coefs j);
}

-- the sum as `Add` makes it
abbrev pub summed : ℤ → Affine → ℤ → Affine → Affine
summed k f l g = combined (pos 1) (combined (pos 1) zero_form k f) l g

summed-alike : (k : ℤ) (f : Affine) (l : ℤ) (g : Affine) → Alike (combined k f l g) (summed k f l g)
summed-alike k f l g = record {
  konst = ap (λ z. z +ℤ l *ℤ g.konst) (once (pos 1 *ℤ pos 0 +ℤ k *ℤ f.konst) ∙ from_none k f.konst);
  coefs = λ j.
      get_or-mix (pos 1) (combined (pos 1) zero_form k f).coefs l g.coefs j
      ∙ ap (λ z. z +ℤ l *ℤ coef j g) (once (coef j (combined (pos 1) zero_form k f)) ∙ first_coef k f j)
      ∙ sym (get_or-mix k f.coefs l g.coefs j);
}

term-stands : (k : ℤ) (r : Row) (f : Affine) → CanAdd k r → term_form k (Some (with_form r f)) ≡ Some f
term-stands k (Eq e) f h = refl
term-stands k (Div m e) f h = absurd h
term-stands k (Ge e) f h = rw (true-le (pos 0) k h) refl

kind : (k : ℤ) (r : Row) (l : ℤ) (s : Row) (f g h : Affine) → CanAdd k r → CanAdd l s → cond (is_equality (Some (with_form r f)) && (is_equality (Some (with_form s g)) && true)) (Eq h) (Ge h) ≡ with_form (sum_of k r l s) h
kind k (Eq e) l (Eq d) f g h a b = refl
kind k (Eq e) l (Ge d) f g h a b = refl
kind k (Ge e) l (Eq d) f g h a b = refl
kind k (Ge e) l (Ge d) f g h a b = refl
kind k (Div m e) l s f g h a b = absurd a
kind k (Eq e) l (Div m d) f g h a b = absurd b
kind k (Ge e) l (Div m d) f g h a b = absurd b

sum_form : (k : ℤ) (r : Row) (l : ℤ) (s : Row) → form_of (sum_of k r l s) ≡ combined k (form_of r) l (form_of s)
sum_form k (Eq e) l (Eq d) = refl
sum_form k (Eq e) l (Div m d) = refl
sum_form k (Eq e) l (Ge d) = refl
sum_form k (Div m e) l (Eq d) = refl
sum_form k (Div m e) l (Div n d) = refl
sum_form k (Div m e) l (Ge d) = refl
sum_form k (Ge e) l (Eq d) = refl
sum_form k (Ge e) l (Div m d) = refl
sum_form k (Ge e) l (Ge d) = refl

two_sum : (c : Conj) (x y : ℕ) (k l : ℤ) (r s : Row) (f g : Affine) → slice_get c.rows x ≡ Some (with_form r f) → slice_get c.rows y ≡ Some (with_form s g) → CanAdd k r → CanAdd l s → Blends k f l g
    → sum_from zero_form ((x, k) ∷ (y, l) ∷ []) c.rows ≡ Some (summed k f l g)
two_sum c x y k l r s f g at and a b h =
    rw (at, and, term-stands k r f a, term-stands l s g b, combination_some (pos 1) zero_form k f (blends-can (pos 1) zero_form k f (first_blends k f l g h)), combination_some (pos 1) (combined (pos 1) zero_form k f) l g (blends-can (pos 1) (combined (pos 1) zero_form k f) l g (further_blends k f l g h))) refl

pub two_terms : (names : List ℕ) (c : Conj) (x y : ℕ) (k l : ℤ) (r s : Row) → (a : StandsAt names c x r) → (b : StandsAt names c y s) → CanAdd k r → CanAdd l s → Blends k (form_of r) l (form_of s)
    → after_step (Add ((x, k) ∷ (y, l) ∷ [])) c ≡ Some (with_row c (with_form (sum_of k r l s) (summed k a.form l b.form)))
two_terms names c x y k l r s a b p q h =
    let t = renames-blends names k (form_of r) l (form_of s) a.form b.form a.renames b.renames h in
    add-row c ((x, k) ∷ (y, l) ∷ []) (summed k a.form l b.form) (omega arith) (two_sum c x y k l r s a.form b.form a.at b.at p q t)
    ∙ rw (a.at, b.at) (ap (λ (z : Row). Some (with_row c z)) (kind k r l s a.form b.form (summed k a.form l b.form) p q))

pub two_renamed : (names : List ℕ) (c : Conj) (x y : ℕ) (k l : ℤ) (r s : Row) → (a : StandsAt names c x r) → (b : StandsAt names c y s) → Renames names (form_of (sum_of k r l s)) (summed k a.form l b.form)
two_renamed names c x y k l r s a b =
    rw (sum_form k r l s) (alike-renames names (combined k (form_of r) l (form_of s)) (combined k a.form l b.form) (summed k a.form l b.form) (renames-combined names k (form_of r) l (form_of s) a.form b.form a.renames b.renames) (summed-alike k a.form l b.form))
