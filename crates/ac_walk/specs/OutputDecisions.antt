-- What the search finds of an output.
use Rattle.std.specs.Prelude.{◌≡◌, ℕ, ℤ, List, [], ◌∷◌, ◌++◌, map, Bool, Some, slice_get}
use Rattle.ac_forms.specs.declared.row.Row.{Row}
use Rattle.ac_syntax.specs.declared.tree.Order.{Order}
use Rattle.ac_syntax.specs.declared.tree.Pair.{Pair}
use Rattle.ac_syntax.specs.declared.tree.Position.{Position}
use Rattle.ac_syntax.specs.declared.tree.Site.{Site}
use Rattle.ac_widen_programs.specs.PairPoints.{choices_of}
use Rattle.ac_widen_programs.specs.DerivationEntries.{entries_of}
use Rattle.ac_match.specs.declared.orders.Refuted.{Refuted}
use Rattle.ac_report.specs.declared.types.Cause.{Cause}
use Rattle.ac_walk_state.specs.SearchSetting.{Widening, IsWideningOf}
use Rattle.ac_walk.specs.OutputSearch.{AreTaken, IsFound, IsSearch, ShowMismatch}
use Rattle.ac_walk.specs.declared.search_types.Search.{Search}
use Rattle.ac_widen_programs.specs.PairSetting.{setting}
use Rattle.ac_unfold_plans.specs.ArgumentOrders.{order_of}
use Rattle.ac_graph.specs.PairMoves.{AreDistinct, AreReached, AreSites, dependences, pairing_of, start_of}
use Rattle.ac_graph.specs.declared.types.Graph.{Graph}
use Rattle.ac_match.specs.SiteOrders.{ExtendsRefuted, IsOrderOf}
use Rattle.ac_walk_state.specs.UnmatchedOutputs.{pair_at}
use Rattle.ac_widen.specs.OrderRefutations.{IsPartOf}
use Rattle.ac_walk.specs.UnknownCauses.{EndsSearch}
use Rattle.ac_walk.specs.Verdicts.{IsCause, IsDifferentAt}
use Rattle.ac_walk.specs.declared.differing.Difference.{Difference}
use Rattle.ac_walk.specs.declared.deciding.Decision.{Decision}
use Rattle.ac_walk.specs.declared.deciding.Decision.TheVariants.{Stands, Different, Unknown}
use Rattle.ac_walk.specs.declared.deciding.Further.{Further}
use Rattle.ac_walk.specs.declared.deciding.Further.TheVariants.{Refuted as Refutes, Decided}

-- ---- differences

-- at this valuation this is the least element that differs, of the output with a number
abbrev pub AreDifferent : Pair → ℕ → List ℤ → List ℤ → Type 0
AreDifferent pair number at element = (output : ℕ) → slice_get pair.outputs number ≡ Some output → IsDifferentAt pair output at element

abbrev pub IsDifference : Pair → ℕ → Difference → Type 0
IsDifference pair number d = AreDifferent pair number d.at d.element

-- ---- searches

-- a search on the output with the number, of a pair that has a widening
pub record IsOutputSearch (s : Search) (number : ℕ) : Type 0 where
  pub search : IsSearch s
  pub output : slice_get s.pair.now.outputs number ≡ Some s.array
  pub widening : (w : Widening) × IsWideningOf s.pair.now s.array w

-- it goes no further than the recurrence pairs
abbrev pub GoesNoFurther : Search → Type 0
GoesNoFurther s = (w : Widening) → IsWideningOf s.pair.now s.array w → AreTaken s.stops.now w

-- behind earlier ones: the entries show a mismatch under an order of the sites that extends no earlier one, and the partial order is the part that they need
pub record IsShown (s : Search) (sites : List Site) (earlier : List Refuted) (r : Refuted) : Type 0 where
  pub order : List (Site × Order)
  pub whole : IsOrderOf sites order
  pub apart : ¬ (ExtendsRefuted order earlier)
  pub shown : ShowMismatch s order r.why.entries
  pub part : (outputs : List ℕ) (recurrent : Position × Position → Bool) (template : Position × Position → List Row) → IsPartOf (setting s.pair.now outputs recurrent template) (order_of order) (entries_of r.why.entries) (choices_of r.partial)

-- so each of the list is, in turn
abbrev pub AreShown : Search → List Site → List Refuted → List Refuted → Type 0
AreShown s sites earlier [] = Unit {0}
AreShown s sites earlier (r ∷ list) = IsShown s sites earlier r × AreShown s sites (earlier ++ r ∷ []) list

-- ---- decisions

-- where the output stands its part of a proof is found under some order; where an element differs it is the least one
abbrev pub IsKept : Search → ℕ → Decision → Type 0
IsKept s number (Stands part) = (order : Position × Position → Order) × IsFound s.pair.now order s.array s.first part
IsKept s number (Different found) = IsDifference s.pair.now number found
IsKept s number (Unknown why) = Unit {0}

abbrev pub IfUnknown : (Cause → Type 0) → Decision → Type 0
IfUnknown P (Stands part) = Unit {0}
IfUnknown P (Different found) = Unit {0}
IfUnknown P (Unknown why) = P why

-- so it is; where the output is unknown and the search goes no further than the recurrence pairs, it may end with the cause, which is one
pub record IsDecision (s : Search) (number : ℕ) (d : Decision) : Type 0 where
  pub kept : IsKept s number d
  pub ends : GoesNoFurther s → IfUnknown (EndsSearch s.program_flows.now.budget s.pair.now s.array) d
  pub cause : GoesNoFurther s → IfUnknown (IsCause s.pair.now s.array) d

abbrev pub IsFurther : Search → ℕ → Further → Type 0
IsFurther s number Refutes = Unit {0}
IsFurther s number (Decided decision) = IsDecision s number decision

-- ---- sites

-- the sites among the pairs, each once
pub record AreSitesAmong (pair : Pair) (pairs : List (Position × Position)) (sites : List Site) : Type 0 where
  pub sites_are : AreSites (pairing_of pair) pairs sites
  pub once : AreDistinct (map pair_at sites)

-- those among the pairs that moves along the edges of a graph reach from the output
pub record AreReachedSites (pair : Pair) (graph : Graph) (output : ℕ) (sites : List Site) : Type 0 where
  pub pairs : List (Position × Position)
  pub reached : AreReached (dependences pair graph.left_edges graph.right_edges) (start_of output ∷ []) pairs
  pub among : AreSitesAmong pair pairs sites
