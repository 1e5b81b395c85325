-- A further member of one of the widening points.
use Rattle.std.specs.Prelude.{ℕ, ℤ, ◌≡◌, List, ◌∷◌, ◌++◌, length, Some, slice_get}
use Rattle.ac_syntax.specs.declared.tree.Position.{Position}
use Rattle.ac_forms.specs.Rows.{Meets}
use Rattle.ac_widen.specs.Derivations.{EntryOf, StandsAt}
use Rattle.ac_walk_state.specs.RecurrencePairs.{WideningPointOf, claim_of, positions}
use Rattle.ac_walk_state.specs.RecurrencePairInvariant.{IsWideningPoint, IsWith}
use Rattle.ac_walk_state.specs.declared.template.Template.{Template}

-- a point has as many numbers as one at the widening point with the number
abbrev pub HasWidthAt : List WideningPointOf → ℕ → List ℤ → Type 0
HasWidthAt widening_points at p = (widening_point : WideningPointOf) × (slice_get widening_points at ≡ Some widening_point) × (length p ≡ widening_point.hull.columns)

-- the widening point with the number has the point as a further member, and the others stay
pub record GrowsAt (t : Template) (old : List WideningPointOf) (at : ℕ) (p : List ℤ) (place : ℕ) (new : List WideningPointOf) : Type 0 where
  pub front : List WideningPointOf
  pub widening_point : WideningPointOf
  pub back : List WideningPointOf
  pub grown : WideningPointOf
  pub old_is : old ≡ front ++ widening_point ∷ back
  pub at_is : length front ≡ at
  pub new_is : new ≡ front ++ grown ∷ back
  pub member : IsWith widening_point p place grown
  pub right : (es : List (EntryOf (Position × Position))) → IsWideningPoint t es widening_point → StandsAt es place (positions widening_point) p → IsWideningPoint t es grown

-- one of the widening points has a further member, which breaks its claim as it was
pub record ClaimGrows (t : Template) (old new : List WideningPointOf) : Type 0 where
  pub at : ℕ
  pub point : List ℤ
  pub place : ℕ
  pub grows : GrowsAt t old at point place new
  pub breaks : ¬ (Meets (claim_of grows.widening_point).rows point)

-- so it is once, or again and again
pub data ClaimsGrow (t : Template) : List WideningPointOf → List WideningPointOf → Type 0 where
  once : (old new : List WideningPointOf) → ClaimGrows t old new → ClaimsGrow t old new
  again : (old between new : List WideningPointOf) → ClaimsGrow t old between → ClaimGrows t between new → ClaimsGrow t old new
