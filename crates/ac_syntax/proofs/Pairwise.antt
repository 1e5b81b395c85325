-- Lists in which a relation holds from each element to each later one.
use Rattle.std.proofs.Common.{ℕ, zero, suc, ◌+◌, ◌<◌, ◌≤◌, List, [], ◌∷◌, ◌++◌, arith}
use Rattle.std.specs.List.{flat_map, range_with_len, AllByRecursion}

-- each two elements, the earlier first
abbrev pub AllPairs : {A : Type 0} → (A → A → Type 0) → List A → Type 0
AllPairs R [] = Unit {0}
AllPairs R (x ∷ xs) = AllByRecursion (R x) xs × AllPairs R xs

module _ {A : Type 0} where
  pub every_append : (P : A → Type 0) (xs ys : List A) → AllByRecursion P xs → AllByRecursion P ys → AllByRecursion P (xs ++ ys)
  every_append P [] ys h k = k
  every_append P (x ∷ xs) ys h k = (h.0, every_append P xs ys h.1 k)

  pub every_map : (P Q : A → Type 0) → ((x : A) → P x → Q x) → (xs : List A) → AllByRecursion P xs → AllByRecursion Q xs
  every_map P Q f [] h = tt
  every_map P Q f (x ∷ xs) h = (f x h.0, every_map P Q f xs h.1)

  pub pairs_append : (R : A → A → Type 0) (xs ys : List A) → AllPairs R xs → AllPairs R ys → AllByRecursion (λ x. AllByRecursion (R x) ys) xs → AllPairs R (xs ++ ys)
  pairs_append R [] ys h k c = k
  pairs_append R (x ∷ xs) ys h k c = (every_append (R x) xs ys h.0 c.0, pairs_append R xs ys h.1 k c.1)

  -- across two lists
  pub across : (P Q : A → Type 0) (R : A → A → Type 0) → ((x y : A) → P x → Q y → R x y) → (xs ys : List A) → AllByRecursion P xs → AllByRecursion Q ys → AllByRecursion (λ x. AllByRecursion (R x) ys) xs
  across P Q R f xs ys h k = every_map P _ (λ x p. every_map Q (R x) (λ y q. f x y p q) ys k) xs h

  pub pairs_map : (P : A → Type 0) (R S : A → A → Type 0) → ((x y : A) → P x → P y → R x y → S x y) → (xs : List A) → AllByRecursion P xs → AllPairs R xs → AllPairs S xs
  pairs_map P R S f [] h k = tt
  pairs_map P R S f (x ∷ xs) h k = (both xs h.1 k.0, pairs_map P R S f xs h.1 k.1)
    where
      both : (ys : List A) → AllByRecursion P ys → AllByRecursion (R x) ys → AllByRecursion (S x) ys
      both [] a b = tt
      both (y ∷ ys) a b = (f x y h.0 a.0 b.0, both ys a.1 b.1)

  pub every_turns : (P : A → Type 0) (f : ℕ → List A) (a n : ℕ) → ((k : ℕ) → a ≤ k → AllByRecursion P (f k)) → AllByRecursion P (flat_map f (range_with_len a n))
  every_turns P f a zero h = tt
  every_turns P f a (suc n) h = every_append P (f a) _ (h a (omega arith)) (every_turns P f (a + 1) n (λ k l. h k (omega arith)))

  pub pairs_turns : (R : A → A → Type 0) (f : ℕ → List A) (a n : ℕ) → ((k : ℕ) → AllPairs R (f k)) → ((k l : ℕ) → k < l → AllByRecursion (λ x. AllByRecursion (R x) (f l)) (f k)) → AllPairs R (flat_map f (range_with_len a n))
  pairs_turns R f a zero h g = tt
  pairs_turns R f a (suc n) h g = pairs_append R (f a) _ (h a) (pairs_turns R f (a + 1) n h g)
      (crossed (f a) (λ k l. g a k (omega arith)))
    where
      crossed : (xs : List A) → ((k : ℕ) → a + 1 ≤ k → AllByRecursion (λ x. AllByRecursion (R x) (f k)) xs) → AllByRecursion (λ x. AllByRecursion (R x) (flat_map f (range_with_len (a + 1) n))) xs
      crossed [] h = tt
      crossed (x ∷ xs) h = (every_turns (R x) f (a + 1) n (λ k l. (h k l).0), crossed xs (λ k l. (h k l).1))
