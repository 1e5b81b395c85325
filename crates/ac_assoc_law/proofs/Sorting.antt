-- Integers in rising order are sorted, and the same; so are the elements of a list in each order.
use Rattle.std.proofs.Common.{◌≡◌, ℕ, zero, suc, ◌+◌, ◌<◌, ◌/◌, ◌%◌, List, [], ◌∷◌, length, Bool, true, false, cond, Option, None, Some, slice_get, refl, arith, ℤ}
use Rattle.std.specs.Prelude.{slice_index_or}
use Rattle.std.specs.List.{AllByRecursion}
use Rattle.std.specs.List.Sorted.{IsPermutation, IsSorted}
use Rattle.std.specs.Option.{option_map_or}
use Rattle.std.specs.Ordering.{int_cmp, is_lt}
use Rattle.std.specs.Int.Signed.{lt_z}
use Rattle.std.proofs.lemmas.Int.{ints}
use Rattle.std.proofs.lemmas.List.Sorted.{IsPermutation-refl, IsPermutation-trans, IsPermutation-cons, IsPermutation-middle}
use Rattle.ac_assoc_law.specs.Rising.{placed, rising}
use Rattle.ac_assoc_law.specs.ArrangedPairs.{factorial, picks, permuted}
use Rattle.ac_assoc_law.specs.LawsOfChains.{RisingRises}
use Rattle.ac_assoc_law.proofs.Permuting.{IfThere, got, all_map}

-- the first two exchanged
exchanged : {X : Type 0} (x y : X) (zs : List X) → IsPermutation (x ∷ y ∷ zs) (y ∷ x ∷ zs)
exchanged x y zs = IsPermutation-middle (x ∷ []) y zs

placed_same : (x : ℤ) (ys : List ℤ) → IsPermutation (x ∷ ys) (placed x ys)
placed_same x [] = IsPermutation-refl _
placed_same x (y ∷ ys) = by (lt_z y x) (placed_same x ys)
  where
    by : (b : Bool) → IsPermutation (x ∷ ys) (placed x ys) → IsPermutation (x ∷ y ∷ ys) (cond b (y ∷ placed x ys) (x ∷ y ∷ ys))
    by true h = IsPermutation-trans _ _ _ (exchanged x y ys) (IsPermutation-cons y _ _ h)
    by false h = IsPermutation-refl _

rising_same : (xs : List ℤ) → IsPermutation xs (rising xs)
rising_same [] = IsPermutation-refl _
rising_same (x ∷ xs) = IsPermutation-trans _ _ _ (IsPermutation-cons x _ _ (rising_same xs)) (placed_same x (rising xs))

-- sorted by recursion, above a bound
abbrev Above : ℤ → List ℤ → Type 0
Above x [] = Unit {0}
Above x (y ∷ ys) = (lt_z y x ≡ false) × Above y ys

abbrev Up : List ℤ → Type 0
Up [] = Unit {0}
Up (y ∷ ys) = Above y ys

less_false : (x y : ℤ) → lt_z y x ≡ true → lt_z x y ≡ false
less_false x y h = grind (arith, ints)

placed_above : (x z : ℤ) (ys : List ℤ) → lt_z x z ≡ false → Above z ys → Above z (placed x ys)
placed_above x z [] h g = (h, tt)
placed_above x z (y ∷ ys) h g = by (lt_z y x) refl (λ k. placed_above x y ys k g.1)
  where
    by : (b : Bool) → lt_z y x ≡ b → (lt_z x y ≡ false → Above y (placed x ys)) → Above z (cond b (y ∷ placed x ys) (x ∷ y ∷ ys))
    by true e f = (g.0, f (less_false x y e))
    by false e f = (h, (e, g.1))

placed_up : (x : ℤ) (ys : List ℤ) → Up ys → Up (placed x ys)
placed_up x [] h = tt
placed_up x (y ∷ ys) h = by (lt_z y x) refl
  where
    by : (b : Bool) → lt_z y x ≡ b → Up (cond b (y ∷ placed x ys) (x ∷ y ∷ ys))
    by true e = placed_above x y ys (less_false x y e) h
    by false e = (e, h)

rising_up : (xs : List ℤ) → Up (rising xs)
rising_up [] = tt
rising_up (x ∷ xs) = placed_up x (rising xs) (rising_up xs)

not_less : (x y : ℤ) → lt_z y x ≡ false → is_lt (int_cmp y x) ≡ false
not_less x y h = grind (arith, ints)

above_at : (x : ℤ) (ys : List ℤ) → Above x ys → (k : ℕ) (d : ℤ) → k < length ys → is_lt (int_cmp (slice_index_or ys k d) (slice_index_or (x ∷ ys) k d)) ≡ false
above_at x [] h k d l = absurd (omega arith)
above_at x (y ∷ ys) h zero d l = not_less x y h.0
above_at x (y ∷ ys) h (suc k) d l = above_at y ys h.1 k d (omega arith)

up_sorted : (xs : List ℤ) → Up xs → IsSorted int_cmp xs
up_sorted [] h k d l g = absurd (omega arith)
up_sorted (x ∷ xs) h k d l g =
    let e : k + 1 ≡ suc k = omega arith in
    rw e (above_at x xs h k d (omega arith))

pub rising_rises : RisingRises
rising_rises xs = record { same = rising_same xs; sorted = up_sorted (rising xs) (rising_up xs) }

picks_same : {X : Type 0} (xs : List X) → AllByRecursion (λ q. IsPermutation xs (q.0 ∷ q.1)) (picks xs)
unfolding picks
picks_same [] = tt
picks_same (x ∷ xs) = (
  IsPermutation-refl _,
  all_map (λ q. IsPermutation xs (q.0 ∷ q.1)) (λ q. IsPermutation (x ∷ xs) (q.0 ∷ q.1)) (λ q. (q.0, x ∷ q.1))
      (λ q h. IsPermutation-trans _ _ _ (IsPermutation-cons x _ _ h) (exchanged x q.0 q.1)) (picks xs) (picks_same xs),
)

pub permuted_same : {X : Type 0} (n number : ℕ) (xs : List X) → IsPermutation xs (permuted n number xs)
unfolding permuted
permuted_same zero number xs = IsPermutation-refl xs
permuted_same {X} (suc n) number xs =
    by (λ ys. permuted_same n (number % factorial n) ys) (slice_get (picks xs) (number / factorial n)) (got (λ q. IsPermutation xs (q.0 ∷ q.1)) (picks xs) (number / factorial n) (picks_same xs))
  where
    by : ((ys : List X) → IsPermutation ys (permuted n (number % factorial n) ys)) → (o : Option (X × List X)) → IfThere (λ q. IsPermutation xs (q.0 ∷ q.1)) o
        → IsPermutation xs (option_map_or (λ q. q.0 ∷ permuted n (number % factorial n) q.1) o xs)
    by f None h = IsPermutation-refl xs
    by f (Some q) h = IsPermutation-trans _ _ _ h (IsPermutation-cons q.0 _ _ (f q.1))
