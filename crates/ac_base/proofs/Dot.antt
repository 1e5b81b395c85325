-- The dot product of combinations, and of lists with appended or missing columns.
use Rattle.std.proofs.Common.{◌≡◌, ◌≤◌, ℤ, pos, ◌+ℤ◌, ◌*ℤ◌, List, [], ◌∷◌, ◌++◌, length, refl, arith}
use Rattle.std.proofs.lemmas.Int.{ints}
use Rattle.ac_base.specs.Dot.{dot, mix}
use Rattle.ac_base.proofs.Products.{mul-add_ℤ, add-mul_ℤ, mul_assoc_ℤ, mul-neg_ℤ}

pub ruleset gather = (mul-add_ℤ, add-mul_ℤ, mul_assoc_ℤ, mul-neg_ℤ)

two_heads : (k l x y z u w : ℤ) → (k *ℤ x +ℤ l *ℤ y) *ℤ z +ℤ (k *ℤ u +ℤ l *ℤ w) ≡ k *ℤ (x *ℤ z +ℤ u) +ℤ l *ℤ (y *ℤ z +ℤ w)
two_heads k l x y z u w = simp gather (omega (arith, ints))

one_head : (k x z u : ℤ) (l : ℤ) → (k *ℤ x) *ℤ z +ℤ (k *ℤ u +ℤ l *ℤ pos 0) ≡ k *ℤ (x *ℤ z +ℤ u) +ℤ l *ℤ pos 0
one_head k x z u l = simp gather (omega (arith, ints))

other_head : (l y z u : ℤ) (k : ℤ) → (l *ℤ y) *ℤ z +ℤ (k *ℤ pos 0 +ℤ l *ℤ u) ≡ k *ℤ pos 0 +ℤ l *ℤ (y *ℤ z +ℤ u)
other_head l y z u k = simp gather (omega (arith, ints))

none : (k l : ℤ) → pos 0 ≡ k *ℤ pos 0 +ℤ l *ℤ pos 0
none k l = omega (arith, ints)

pub dot-nil : (a : List ℤ) → dot a [] ≡ pos 0
dot-nil [] = refl
dot-nil (x ∷ xs) = refl

-- the dot product is linear in the coefficients
pub dot-mix : (k : ℤ) (a : List ℤ) (l : ℤ) (b : List ℤ) (p : List ℤ) → dot (mix k a l b) p ≡ k *ℤ dot a p +ℤ l *ℤ dot b p
dot-mix k a l b [] = rw (dot-nil (mix k a l b), dot-nil a, dot-nil b) (none k l)
dot-mix k [] l [] (z ∷ p) = none k l
dot-mix k [] l (y ∷ ys) (z ∷ p) = rw (dot-mix k [] l ys p) (other_head l y z (dot ys p) k)
dot-mix k (x ∷ xs) l [] (z ∷ p) = rw (dot-mix k xs l [] p) (one_head k x z (dot xs p) l)
dot-mix k (x ∷ xs) l (y ∷ ys) (z ∷ p) = rw (dot-mix k xs l ys p) (two_heads k l x y z (dot xs p) (dot ys p))

-- columns past the coefficients count for nothing
pub dot-append : (a p q : List ℤ) → length a ≤ length p → dot a (p ++ q) ≡ dot a p
dot-append [] p q h = refl
dot-append (x ∷ xs) [] q h = absurd (omega arith)
dot-append (x ∷ xs) (z ∷ p) q h = rw (dot-append xs p q (omega arith)) refl

-- appended coefficients
pub dot-append_both : (a b p q : List ℤ) → length a ≡ length p → dot (a ++ b) (p ++ q) ≡ dot a p +ℤ dot b q
dot-append_both [] b [] q h = omega (arith, ints)
dot-append_both [] b (z ∷ p) q h = absurd (omega arith)
dot-append_both (x ∷ xs) b [] q h = absurd (omega arith)
dot-append_both (x ∷ xs) b (z ∷ p) q h = rw (dot-append_both xs b p q (omega arith)) (omega (arith, ints))
