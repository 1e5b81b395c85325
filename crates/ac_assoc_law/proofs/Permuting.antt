-- A permutation's values in rising order are those of the list.
use Rattle.std.proofs.Common.{◌≡◌, ℕ, zero, suc, ◌/◌, ◌%◌, List, [], ◌∷◌, map, Option, None, Some, slice_get, refl, sym, ap, ◌∙◌, ℤ}
use Rattle.std.specs.List.{AllByRecursion}
use Rattle.std.specs.Option.{option_map_or}
use Rattle.ac_assoc_law.specs.Rising.{placed, rising}
use Rattle.ac_assoc_law.specs.ArrangedPairs.{factorial, picks, permuted}
use Rattle.ac_assoc_law.proofs.Placing.{exchange}

-- what holds of an element, if there is one
abbrev pub IfThere : {X : Type 0} → (X → Type 0) → Option X → Type 0
IfThere P None = Unit {0}
IfThere P (Some x) = P x

pub got : {X : Type 0} (P : X → Type 0) (xs : List X) (i : ℕ) → AllByRecursion P xs → IfThere P (slice_get xs i)
got P [] i h = tt
got P (x ∷ xs) zero h = h.0
got P (x ∷ xs) (suc i) h = got P xs i h.1

pub all_map : {X Y : Type 0} (P : X → Type 0) (Q : Y → Type 0) (g : X → Y) → ((x : X) → P x → Q (g x)) → (xs : List X) → AllByRecursion P xs → AllByRecursion Q (map g xs)
all_map P Q g k [] h = tt
all_map P Q g k (x ∷ xs) h = (k x h.0, all_map P Q g k xs h.1)

module _ {X : Type 0} (f : X → ℤ) where
  abbrev Picked : List X → X × List X → Type 0
  Picked xs q = rising (map f xs) ≡ placed (f q.0) (rising (map f q.1))

  picked : (xs : List X) → AllByRecursion (Picked xs) (picks xs)
  unfolding picks
  picked [] = tt
  picked (x ∷ xs) =
      (refl, all_map (Picked xs) (Picked (x ∷ xs)) (λ (q : X × List X). (q.0, x ∷ q.1)) (λ q h. ap (placed (f x)) h ∙ exchange (f x) (f q.0) (rising (map f q.1))) (picks xs) (picked xs))

  pub permuted_rises : (n number : ℕ) (xs : List X) → rising (map f (permuted n number xs)) ≡ rising (map f xs)
  unfolding permuted
  permuted_rises zero number xs = refl
  permuted_rises (suc n) number xs = by (λ ys. permuted_rises n (number % factorial n) ys) (slice_get (picks xs) (number / factorial n)) (got (Picked xs) (picks xs) (number / factorial n) (picked xs))
    where
      by : ((ys : List X) → rising (map f (permuted n (number % factorial n) ys)) ≡ rising (map f ys)) → (o : Option (X × List X)) → IfThere (Picked xs) o → rising (map f (option_map_or (λ q. q.0 ∷ permuted n (number % factorial n) q.1) o xs)) ≡ rising (map f xs)
      by e None h = refl
      by e (Some q) h = ap (placed (f q.0)) (e q.1) ∙ sym h
