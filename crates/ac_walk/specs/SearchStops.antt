-- The causes of early ends.
use Rattle.std.specs.Prelude.{ℕ, ℤ, List, Option}
use Rattle.ac_syntax.specs.declared.tree.Order.{Order}
use Rattle.ac_syntax.specs.declared.tree.Position.{Position}
use Rattle.ac_syntax.specs.declared.tree.Site.{Site}
use Rattle.ac_forms.specs.ListMembers.{IsAmong}
use Rattle.ac_claims.specs.declared.types.Claim.{Claim}
use Rattle.ac_hull.specs.declared.stop.HullStop.{HullStop}
use Rattle.ac_hull.specs.declared.stop.HullStop.TheVariants as hull
use Rattle.ac_walk_state.specs.RecurrencePairStops.{AreTooLarge}
use Rattle.ac_walk_state.specs.SearchSetting.{Widening, IsWideningOf, searched}
use Rattle.ac_unfold_plans.specs.ArgumentOrders.{order_of}
use Rattle.ac_report.specs.declared.types.Cause.{Cause}
use Rattle.ac_report.specs.declared.types.Cause.TheVariants as cause
use Rattle.ac_unfold.specs.UnfoldCauses.{StopsUnfolding}
use Rattle.ac_unfold.specs.declared.types.UnfoldStop.{UnfoldStop}
use Rattle.ac_unfold.specs.declared.types.UnfoldStop.TheVariants as found
use Rattle.ac_walk_state.specs.OrderKnowledge.{claims_of}
use Rattle.ac_walk_state.specs.declared.known.Known.{Known}
use Rattle.ac_walk_state.specs.Elements.{IsElementClaim}
use Rattle.ac_walk.specs.FoundMembers.{AreFoundBeside}
use Rattle.ac_walk.specs.OutputSearch.{AreTaken, IsKnownUnder}
use Rattle.ac_walk.specs.StartPaths.{IsStartOf}
use Rattle.ac_walk.specs.declared.stops.Stop.{Stop}
use Rattle.ac_walk.specs.declared.stops.Stop.TheVariants.{Early, Memory}
use Rattle.ac_walk.specs.declared.search_types.Search.{Search}

-- the points of a hull whose numbers are too large
abbrev pub of_hull : HullStop → Stop
of_hull (hull.Overflow points) = Early (cause.OverflowHull points)
of_hull (hull.Memory want) = Memory want

-- the question that is too wide or too dear, or the paths that are too many
abbrev pub of_unfolding : UnfoldStop → Stop
of_unfolding (found.Overflow question) = Early (cause.OverflowQuestion question)
of_unfolding (found.Spent question cost) = Early (cause.SpentQuestion question cost)
of_unfolding (found.Paths paths) = Early (cause.SpentPaths paths)
of_unfolding (found.Memory want) = Memory want

-- ---- what is known under the order

-- where it goes no further than the recurrence pairs, obligations at one of them are too large in the setting of the search
abbrev pub AreTooLargeUnder : Search → List (Site × Order) → List (List ℤ) → Type 0
AreTooLargeUnder s order points =
    (w : Widening) → IsWideningOf s.pair.now s.array w → AreTaken s.stops.now w → (pair : Position × Position) × IsAmong pair s.stops.now × (large : AreTooLarge (searched s.pair.now s.array w) (order_of order) w.thresholds w.moduli pair points)
    × AreFoundBeside s.pair.now s.array w (order_of order) s.program_flows.now.left_flow.now s.program_flows.now.right_flow.now pair large.members large.point

-- each unfolding under the order from the claim of the output, or from that of a widening point of it, against the claims of its widening points stops so
pub record StopsUnfoldingUnder (s : Search) (order : List (Site × Order)) (stop : UnfoldStop) : Type 0 where
  pub known : Known
  pub is_known : IsKnownUnder s order known
  pub from : Option ℕ
  pub claim : Claim
  pub start : IsStartOf s known from claim
  pub stops : StopsUnfolding s.program_flows.now claim (claims_of known) order stop

-- ---- the search under one order

-- what ends it early: points that are too large; a question of an unfolding that is too wide or too costly, or at which no row can be formed that comes next;
-- or too many paths
abbrev pub StopsSearch : Search → List (Site × Order) → Cause → Type 0
StopsSearch s order (cause.Unmatched refuted) = ⊥
StopsSearch s order (cause.OverflowQuestion question) = StopsUnfoldingUnder s order (found.Overflow question)
StopsSearch s order (cause.OverflowHull points) = AreTooLargeUnder s order points
StopsSearch s order (cause.SpentQuestion question cost) = StopsUnfoldingUnder s order (found.Spent question cost)
StopsSearch s order (cause.SpentPieces position kept) = ⊥
StopsSearch s order (cause.SpentPaths paths) = StopsUnfoldingUnder s order (found.Paths paths)
StopsSearch s order (cause.SpentOrders refuted) = ⊥

abbrev pub EndsEarly : Search → List (Site × Order) → Stop → Type 0
EndsEarly s order (Early why) = StopsSearch s order why
EndsEarly s order (Memory want) = Unit {0}

-- ---- plans against claims

-- what ends those of a start early: an unfolding from there stops so
abbrev pub StopsStart : Search → List (Site × Order) → List Claim → Claim → Cause → Type 0
StopsStart s order claims start (cause.Unmatched refuted) = ⊥
StopsStart s order claims start (cause.OverflowQuestion question) = StopsUnfolding s.program_flows.now start claims order (found.Overflow question)
StopsStart s order claims start (cause.OverflowHull points) = ⊥
StopsStart s order claims start (cause.SpentQuestion question cost) = StopsUnfolding s.program_flows.now start claims order (found.Spent question cost)
StopsStart s order claims start (cause.SpentPieces position kept) = ⊥
StopsStart s order claims start (cause.SpentPaths paths) = StopsUnfolding s.program_flows.now start claims order (found.Paths paths)
StopsStart s order claims start (cause.SpentOrders refuted) = ⊥

abbrev pub EndsEarlyBy : Search → List (Site × Order) → List Claim → Claim → Stop → Type 0
EndsEarlyBy s order claims start (Early why) = StopsStart s order claims start why
EndsEarlyBy s order claims start (Memory want) = Unit {0}

-- the start is the claim of the output
abbrev pub EndsEarlyFirst : Search → List (Site × Order) → List Claim → Stop → Type 0
EndsEarlyFirst s order claims (Early why) = (output : Claim) × IsElementClaim s.pair.now s.array output × StopsStart s order claims output why
EndsEarlyFirst s order claims (Memory want) = Unit {0}
