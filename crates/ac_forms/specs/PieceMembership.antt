-- Pieces, of which a point has to be in one: lists of rows, conjunctions, or whatever has points.
use Rattle.std.specs.Prelude.{◌⊎◌, ℤ, List, [], ◌∷◌}

-- the point is in one of the pieces, where `Has` says which points a piece has
abbrev pub IsInSome : {A : Type 0} → (A → List ℤ → Type 0) → List A → List ℤ → Type 0
IsInSome Has [] p = ⊥
IsInSome Has (x ∷ xs) p = Has x p ⊎ IsInSome Has xs p

-- the point is in none of them
abbrev pub IsInNone : {A : Type 0} → (A → List ℤ → Type 0) → List A → List ℤ → Type 0
IsInNone Has [] p = Unit {0}
IsInNone Has (x ∷ xs) p = (¬ Has x p) × IsInNone Has xs p

-- the point is in one of them at most
abbrev pub IsInOneAtMost : {A : Type 0} → (A → List ℤ → Type 0) → List A → List ℤ → Type 0
IsInOneAtMost Has [] p = Unit {0}
IsInOneAtMost Has (x ∷ xs) p = (Has x p → IsInNone Has xs p) × IsInOneAtMost Has xs p
