-- The least element of an output at which two runs left terms that do not agree.
use Rattle.std.specs.Prelude.{◌≡◌, ℕ, ◌==◌, ℤ, pos, ◌≤ℤ◌, ◌<ℤ◌, ◌⊎◌, List, [], ◌∷◌, ◌++◌, Option, Some, None, Bool}
use Rattle.std.specs.List.{list_any}
use Rattle.ac_syntax.specs.Algebra.{Cell}
use Rattle.ac_syntax.specs.Index.{Point}
use Rattle.ac_syntax.specs.Outputs.{InExtents, swaps_of}
use Rattle.ac_syntax.specs.Term.{Term, Agree}
use Rattle.ac_syntax.specs.declared.tree.IndexExpr.{IndexExpr}
use Rattle.ac_instance.specs.KeptIds.{cell}
use Rattle.ac_instance.specs.Events.{natural}

-- the lexicographic order: the first coordinates that differ rise
abbrev pub IsEarlier : List ℤ → List ℤ → Type 0
IsEarlier [] ys = ⊥
IsEarlier (x ∷ xs) [] = ⊥
IsEarlier (x ∷ xs) (y ∷ ys) = (x <ℤ y) ⊎ ((x ≡ y) × IsEarlier xs ys)

-- which elements are looked at, and where the terms agree
pub record Looked : Type 1 where
  pub At : List ℤ → Type 0
  pub Agrees : List ℤ → Type 0

-- none where all agree, else the first of those that do not
abbrev pub IsLeast : Looked → Option (List ℤ) → Type 0
IsLeast looked None = (e : List ℤ) → looked.At e → looked.Agrees e
IsLeast looked (Some e) = looked.At e × (¬ looked.Agrees e) × ((f : List ℤ) → looked.At f → IsEarlier f e → looked.Agrees f)

-- two states agree in an element of an output
abbrev pub AgreeAt : List (List ℕ) → ℕ → (Cell → Term) → (Cell → Term) → List ℤ → Type 0
AgreeAt names output left right e = Agree (swaps_of names) (left (cell output e)) (right (cell output e))

-- one element
abbrev pub IsFound : (List ℤ → Type 0) → List ℤ → Option (List ℤ) → Type 0
IsFound agrees at None = agrees at
IsFound agrees at (Some e) = (e ≡ at) × (¬ agrees at)

-- as many coordinates as sizes, each at least 0 and below its size
abbrev pub InSizes : List ℤ → List ℤ → Type 0
InSizes [] [] = Unit {0}
InSizes [] (x ∷ xs) = ⊥
InSizes (n ∷ ns) [] = ⊥
InSizes (n ∷ ns) (x ∷ xs) = (pos 0 ≤ℤ x) × (x <ℤ n) × InSizes ns xs

-- some size leaves no coordinate
abbrev pub has_none_of : List ℤ → Bool
has_none_of = list_any (λ n. natural n == 0)

-- the elements with these first coordinates
abbrev pub beneath : (List ℤ → Type 0) → List ℤ → List ℤ → Looked
beneath agrees prefix sizes = record { At = λ e. (rest : List ℤ) × (e ≡ prefix ++ rest) × InSizes sizes rest; Agrees = agrees }

-- all elements of an output
abbrev pub throughout : (List ℤ → Type 0) → Point → List IndexExpr → Looked
throughout agrees p extents = record { At = InExtents p extents; Agrees = agrees }

abbrev pub first_found : Option (List ℤ) → Option (List ℤ) → Option (List ℤ)
first_found (Some e) found = Some e
first_found None found = found
