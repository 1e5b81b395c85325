-- What is given to a name, entry by entry.
use Rattle.std.proofs.Common.{◌≡◌, ◌<◌, ℕ, zero, suc, ℤ, List, [], ◌∷◌, map, length, slice_index_or, Option, None, Some, arith}

-- the values that were found: none or one
abbrev pub found_so_far : Option ℤ → List ℤ
found_so_far None = []
found_so_far (Some v) = v ∷ []

-- where two lists have equal images, so have their elements
pub image_at : {A : Type 0} (f : A → List ℤ) (xs : List A) (vs : List ℤ) (i : ℕ) (d : A) → i < length xs → map f xs ≡ map (λ v. v ∷ []) vs → (v : ℤ) × (f (slice_index_or xs i d) ≡ v ∷ [])
image_at f [] vs i d h e = absurd (omega (arith, h))
image_at f (x ∷ xs) [] i d h e = absurd cc
image_at f (x ∷ xs) (v ∷ vs) zero d h e = (v, let k : f x ≡ v ∷ [] = cc in k)
image_at f (x ∷ xs) (v ∷ vs) (suc i) d h e = image_at f xs vs i d (omega (arith, h)) (let k : map f xs ≡ map (λ v. v ∷ []) vs = cc in k)
