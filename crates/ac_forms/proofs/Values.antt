-- The value of sums and multiples of forms.
use Rattle.std.proofs.Common.{◌≡◌, ◌≤◌, ℕ, ℤ, pos, ◌+ℤ◌, ◌*ℤ◌, List, [], ◌∷◌, ◌++◌, map, length, replicate, refl, ap, sym, ◌∙◌, arith, zero, suc, ◌+◌, ◌-◌, ◌<◌, get_or}
use Rattle.std.proofs.lemmas.Int.{ints}
use Rattle.ac_base.specs.Dot.{dot, mix}
use Rattle.ac_base.proofs.Products.{mul-add_ℤ, mul_assoc_ℤ, add-mul_ℤ}
use Rattle.ac_base.proofs.Dot.{gather, dot-mix, dot-append, dot-nil}
use Rattle.ac_forms.specs.Affine.{Affine, value_at, scaled, added, combined, plus, shifted, constant_form, column_form}

-- the numbers of a list, each k times
pub dot-map : (k : ℤ) (cs p : List ℤ) → dot (map (λ c. k *ℤ c) cs) p ≡ k *ℤ dot cs p
dot-map k [] p = omega (arith, ints)
dot-map k (c ∷ cs) [] = omega (arith, ints)
dot-map k (c ∷ cs) (x ∷ p) = ap (λ r. (k *ℤ c) *ℤ x +ℤ r) (dot-map k cs p) ∙ joined k c x (dot cs p)
  where
    joined : (k c x d : ℤ) → (k *ℤ c) *ℤ x +ℤ k *ℤ d ≡ k *ℤ (c *ℤ x +ℤ d)
    joined k c x d = simp gather refl

pub value_at-scaled : (k : ℤ) (f : Affine) (p : List ℤ) → value_at (scaled k f) p ≡ k *ℤ value_at f p
value_at-scaled k f p = ap (λ z. z +ℤ k *ℤ f.konst) (dot-map k f.coefs p) ∙ sym (mul-add_ℤ k (dot f.coefs p) f.konst)

constants : (k l u w s t : ℤ) → k *ℤ u +ℤ l *ℤ w +ℤ (k *ℤ s +ℤ l *ℤ t) ≡ k *ℤ (u +ℤ s) +ℤ l *ℤ (w +ℤ t)
constants k l u w s t = simp gather (omega (arith, ints))

pub value_at-combined : (k : ℤ) (f : Affine) (l : ℤ) (g : Affine) (p : List ℤ) → value_at (combined k f l g) p ≡ k *ℤ value_at f p +ℤ l *ℤ value_at g p
value_at-combined k f l g p = rw (dot-mix k f.coefs l g.coefs p) (constants k l (dot f.coefs p) (dot g.coefs p) f.konst g.konst)

pub dot-plus : (a b p : List ℤ) → dot (plus a b) p ≡ dot a p +ℤ dot b p
dot-plus [] b p = omega (arith, ints)
dot-plus (x ∷ xs) [] p = omega (arith, ints)
dot-plus (x ∷ xs) (y ∷ ys) [] = omega (arith, ints)
dot-plus (x ∷ xs) (y ∷ ys) (z ∷ p) = ap (λ r. (x +ℤ y) *ℤ z +ℤ r) (dot-plus xs ys p) ∙ joined x y z (dot xs p) (dot ys p)
  where
    joined : (x y z u v : ℤ) → (x +ℤ y) *ℤ z +ℤ (u +ℤ v) ≡ x *ℤ z +ℤ u +ℤ (y *ℤ z +ℤ v)
    joined x y z u v = rw (add-mul_ℤ x y z) (omega (arith, ints))

pub value_at-added : (f g : Affine) (p : List ℤ) → value_at (added f g) p ≡ value_at f p +ℤ value_at g p
value_at-added f g p = rw (dot-plus f.coefs g.coefs p) (omega (arith, ints))

pub value_at-shifted : (f : Affine) (c : ℤ) (p : List ℤ) → value_at (shifted f c) p ≡ value_at f p +ℤ c
value_at-shifted f c p = omega (arith, ints)

-- columns past a form's coefficients count for nothing
pub value_at-append : (f : Affine) (p q : List ℤ) → length f.coefs ≤ length p → value_at f (p ++ q) ≡ value_at f p
value_at-append f p q h = ap (λ z. z +ℤ f.konst) (dot-append f.coefs p q h)
