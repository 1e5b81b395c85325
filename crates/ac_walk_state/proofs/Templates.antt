-- The moduli of a template are at least 1.
use Rattle.std.proofs.Common.{◌≡◌, inl, inr, ◌≤◌, ℤ, pos, ◌≤ℤ◌, List, [], ◌∷◌, ◌&&◌, nat_le, unsigned_abs, if◌then◌else◌, Bool, true, false, refl, arith}
use Rattle.std.proofs.lemmas.Int.{ints}
use Rattle.std.proofs.lemmas.Bool.{leb-true}
use Rattle.std.specs.List.{flat_map}
use Rattle.ac_forms.specs.ListMembers.{IsAmong}
use Rattle.ac_syntax.specs.declared.tree.Pair.{Pair}
use Rattle.ac_hull.specs.ProgramConstants.{numbers_of_pair}
use Rattle.ac_hull.specs.SmallestIntegers.{AreFirst}
use Rattle.ac_hull.specs.Thresholds.{modulus_at, modulus_candidates, small_size}
use Rattle.ac_hull.proofs.Among.{among_parts}
use Rattle.ac_widen.specs.Combinations.{Each}
use Rattle.ac_widen.proofs.Combining.{each_map}

size_positive : (n m : ℤ) (a b : Bool) → nat_le 2 (unsigned_abs n) ≡ a → nat_le (unsigned_abs n) 16 ≡ b → IsAmong m (if a && b then pos (unsigned_abs n) ∷ [] else []) → pos 1 ≤ℤ m
size_positive n m false b e f h = absurd h
size_positive n m true false e f h = absurd h
size_positive n m true true e f (inl i) = let l : 2 ≤ unsigned_abs n = leb-true 2 (unsigned_abs n) e in rw i (omega (arith, ints, l))
size_positive n m true true e f (inr i) = absurd i

small_positive : (n m : ℤ) → IsAmong m (small_size n) → pos 1 ≤ℤ m
small_positive n m h = size_positive n m (nat_le 2 (unsigned_abs n)) (nat_le (unsigned_abs n) 16) refl refl h

abbrev Positive : {A : Type 0} → (A → List ℤ) → Type 0
Positive {A} f = (x : A) (m : ℤ) → IsAmong m (f x) → pos 1 ≤ℤ m

flat_positive : {A : Type 0} (f : A → List ℤ) → Positive f → (ns : List A) (m : ℤ) → IsAmong m (flat_map f ns) → pos 1 ≤ℤ m
flat_positive f p [] m h = absurd h
flat_positive f p (n ∷ ns) m h = elim (among_parts m (f n) (flat_map f ns) h) [ inl a ↦ p n m a | inr a ↦ flat_positive f p ns m a ]

number_positive : Positive modulus_at
number_positive x m h = grind (arith, small_positive)

pub moduli_positive : (pair : Pair) (ms : List ℤ) → AreFirst 8 (λ m. IsAmong m (modulus_candidates pair)) ms → Each (λ m. pos 1 ≤ℤ m) ms
moduli_positive pair ms h = each_map (λ m. IsAmong m (modulus_candidates pair)) (λ m. pos 1 ≤ℤ m) ms (λ m a. flat_positive modulus_at number_positive (numbers_of_pair pair) m a) h.among
