-- Which members a search on an output finds.
use Rattle.std.specs.Prelude.{◌≡◌, ◌⊎◌, ◌↔◌, ℕ, ℤ, List, [], ◌∷◌, map, true}
use Rattle.ac_forms.specs.ListMembers.{IsAmong}
use Rattle.ac_forms.specs.declared.row.Row.{Row}
use Rattle.ac_syntax.specs.declared.tree.Order.{Order}
use Rattle.ac_syntax.specs.declared.tree.Pair.{Pair}
use Rattle.ac_syntax.specs.declared.tree.Position.{Position}
use Rattle.ac_claims.specs.declared.types.Claim.{Claim}
use Rattle.ac_flow.specs.declared.types.Flow.{Flow}
use Rattle.ac_graph.specs.PairMoves.{AreDistinct}
use Rattle.ac_hull.specs.EliminationRange.{CanCombine}
use Rattle.ac_hull.specs.Templates.{template_rows}
use Rattle.ac_widen.specs.Combinations.{Each}
use Rattle.ac_widen.specs.Derivations.{IsDerivation}
use Rattle.ac_widen.specs.declared.derivation.Entry.{Entry}
use Rattle.ac_widen_programs.specs.DerivationEntries.{entries_of}
use Rattle.ac_widen_programs.specs.PairPaths.{Unfolding}
use Rattle.ac_widen_programs.specs.PairSetting.{point_width}
use Rattle.ac_unfold.specs.FoundPaths.{IsFoundAt}
use Rattle.ac_walk_state.specs.Elements.{IsElementClaim}
use Rattle.ac_walk_state.specs.PathEnds.{IsEnd, entry_positions}
use Rattle.ac_walk_state.specs.RecurrencePairInvariant.{IsWideningPointIn}
use Rattle.ac_walk_state.specs.RecurrencePairs.{WideningPointOf, IsMemberOf, claim_of, positions}
use Rattle.ac_walk_state.specs.SearchSetting.{Widening, searched}

-- the template rows with which it widens
abbrev pub rows_at : Pair → Widening → Position × Position → List Row
rows_at pair w widening_point = template_rows (point_width pair widening_point) w.thresholds w.moduli

-- the unfolding of a claim under an order, in the setting of the search on an output that widens so
abbrev pub unfolding_in : Pair → ℕ → Widening → (Position × Position → Order) → Claim → Unfolding
unfolding_in pair output w order claim = record { pair = pair; order = order; claim = claim; outputs = output ∷ []; recurrent = w.recurrent; template = rows_at pair w }

-- ---- what is known

-- a derivation under the order has the members of widening points, one for each recurrence pair
pub record AreKnown (pair : Pair) (output : ℕ) (w : Widening) (order : Position × Position → Order) (widening_points : List WideningPointOf) : Type 0 where
  pub entries : List Entry
  pub derived : IsDerivation (searched pair output w) order (entries_of entries)
  pub right : Each (IsWideningPointIn (searched pair output w) (entries_of entries)) widening_points
  pub recur : (pair : Position × Position) → IsAmong pair (map positions widening_points) ↔ (w.recurrent pair ≡ true)
  pub distinct : AreDistinct (map positions widening_points)

-- the claim of the output, or of one of them
abbrev pub IsStartAmong : Pair → ℕ → List WideningPointOf → Claim → Type 0
IsStartAmong pair output widening_points start = IsElementClaim pair output start ⊎ IsAmong start (map claim_of widening_points)

-- ---- found members

-- the end of a path that an unfolding finds, by flows of both programs, from such a claim, against claims whose members are found
pub data IsFoundMember (pair : Pair) (output : ℕ) (w : Widening) (order : Position × Position → Order) (left right : Flow) : Position × Position → List ℤ → Type 0 where
  end : (widening_points : List WideningPointOf) (start : Claim) (path : List Entry) (e : Entry) → AreKnown pair output w order widening_points
      → ((k : WideningPointOf) (p : List ℤ) → IsAmong k widening_points → IsMemberOf k p → IsFoundMember pair output w order left right (positions k) p) → IsStartAmong pair output widening_points start
      → IsFoundAt (unfolding_in pair output w order start) left right (map claim_of widening_points) path → IsEnd path e → IsFoundMember pair output w order left right (entry_positions e) e.point

-- each member of the widening points is
abbrev pub AreFound : Pair → ℕ → Widening → (Position × Position → Order) → Flow → Flow → List WideningPointOf → Type 0
AreFound pair output w order left right widening_points = (k : WideningPointOf) (p : List ℤ) → IsAmong k widening_points → IsMemberOf k p → IsFoundMember pair output w order left right (positions k) p

-- each of the members at a pair is, and so is the point, or it cannot be combined from them
pub record AreFoundBeside (pair : Pair) (output : ℕ) (w : Widening) (order : Position × Position → Order) (left right : Flow) (at : Position × Position) (members : List (List ℤ)) (point : List ℤ) : Type 0 where
  pub each : (p : List ℤ) → IsAmong p members → IsFoundMember pair output w order left right at p
  pub last : IsFoundMember pair output w order left right at point ⊎ ¬ (CanCombine members point)
