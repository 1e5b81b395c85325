-- When an output of a pair of programs is the same: at a valuation and an element, and for the whole context.
use Rattle.std.specs.Prelude.{ℕ, zero, suc, ◌≡◌, ◌==◌, ◌&&◌, ◌≤ℤ◌, ◌<ℤ◌, List, [], ◌∷◌, ℤ, pos, length, Bool, true, false, nat_eq}
use Rattle.std.specs.List.{list_any}
use Rattle.std.specs.Cmp.Lexicographic.{pointwise}
use Rattle.ac_syntax.specs.Index.{Point, point, index_value, holds}
use Rattle.ac_syntax.specs.Sameness.{Same, SameTerms}
use Rattle.ac_syntax.specs.Where.{element}
use Rattle.ac_syntax.specs.declared.tree.IndexExpr.{IndexExpr}
use Rattle.ac_syntax.specs.declared.tree.Symbol.{Symbol}
use Rattle.ac_syntax.specs.declared.tree.Kind.{Kind}
use Rattle.ac_syntax.specs.declared.tree.Kind.TheVariants.{Input, Local}
use Rattle.ac_syntax.specs.declared.tree.Array.{Array}
use Rattle.ac_syntax.specs.declared.tree.Pair.{Pair}

abbrev pub is_input_kind : Kind → Bool
is_input_kind Input = true
is_input_kind Local = false

-- whether the array with a number is an input
abbrev pub input_at : List Array → ℕ → Bool
input_at [] k = false
input_at (a ∷ rest) zero = is_input_kind a.kind
input_at (a ∷ rest) (suc k) = input_at rest k

-- the extents of the array with a number
abbrev pub extents_at : List Array → ℕ → List IndexExpr
extents_at [] k = []
extents_at (a ∷ rest) zero = a.extents
extents_at (a ∷ rest) (suc k) = extents_at rest k

-- a symbol of two arguments whose name is declared commutative
abbrev pub swaps_of : List (List ℕ) → Symbol → Bool
swaps_of names s = (s.arity == 2) && list_any (pointwise nat_eq s.name) names

-- as many coordinates as extents, each at least 0 and below its extent
abbrev pub InExtents : Point → List IndexExpr → List ℤ → Type 0
InExtents p [] [] = Unit {0}
InExtents p [] (x ∷ xs) = ⊥
InExtents p (e ∷ es) [] = ⊥
InExtents p (e ∷ es) (x ∷ xs) = (pos 0 ≤ℤ x) × (x <ℤ index_value p e) × InExtents p es xs

-- an integer for each parameter, so that the context of both programs holds
pub record IsValuation (pair : Pair) (params : List ℤ) : Type 0 where
  pub each : length params ≡ length pair.left.params
  pub context : holds (point params []) pair.context ≡ true

-- an element of the output array with this number
abbrev pub IsElement : Pair → List ℤ → ℕ → List ℤ → Type 0
IsElement pair params output e = InExtents (point params []) (extents_at pair.left.arrays output) e

-- the output is the same at a valuation and an element
abbrev pub SameAt : Pair → List ℤ → ℕ → List ℤ → Type 0
SameAt pair params output e =
    Same (input_at pair.left.arrays) (swaps_of pair.commutative) pair.left.body pair.right.body params (element output e)

-- the terms of both programs agree there
abbrev pub SameTermsAt : Pair → List ℤ → ℕ → List ℤ → Type 0
SameTermsAt pair params output e =
    SameTerms (input_at pair.left.arrays) (swaps_of pair.commutative) pair.left.body pair.right.body params (element output e)

-- the output is the same, at each valuation of the context and at each of its elements
abbrev pub SameOutput : Pair → ℕ → Type 0
SameOutput pair output = (params : List ℤ) → IsValuation pair params → (e : List ℤ) → IsElement pair params output e → SameAt pair params output e
