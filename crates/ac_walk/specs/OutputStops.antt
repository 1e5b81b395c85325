-- Where the search on an output stops at a question of an unfolding, or at too many of its paths.
use Rattle.std.specs.Prelude.{◌≡◌, ℕ, List, map}
use Rattle.ac_syntax.specs.declared.tree.Order.{Order}
use Rattle.ac_syntax.specs.declared.tree.Pair.{Pair}
use Rattle.ac_syntax.specs.declared.tree.Position.{Position}
use Rattle.ac_syntax.specs.declared.tree.Site.{Site}
use Rattle.ac_claims.specs.declared.types.Claim.{Claim}
use Rattle.ac_flow.specs.declared.types.Flow.{Flow}
use Rattle.ac_graph.specs.GraphMeaning.{HaveFlows}
use Rattle.ac_match.specs.SiteOrders.{IsOrderOf}
use Rattle.ac_unfold_plans.specs.ArgumentOrders.{order_of}
use Rattle.ac_walk_state.specs.SearchSetting.{Widening, IsWideningOf}
use Rattle.ac_walk_state.specs.RecurrencePairs.{WideningPointOf, claim_of}
use Rattle.ac_walk_state.specs.UnmatchedOutputs.{AreSitesOf}
use Rattle.ac_unfold.specs.UnfoldCauses.{IsStopOf}
use Rattle.ac_unfold.specs.declared.types.UnfoldStop.{UnfoldStop}
use Rattle.ac_walk.specs.FoundMembers.{AreFound, AreKnown, IsStartAmong, unfolding_in}

-- the order is one of the sites of the output: elsewhere the arguments of two calls keep theirs
pub record IsOrderOfSites (pair : Pair) (output : ℕ) (order : Position × Position → Order) : Type 0 where
  pub sites : List Site
  pub sites_are : AreSitesOf pair output sites
  pub chosen : List (Site × Order)
  pub whole : IsOrderOf sites chosen
  pub order_is : order ≡ order_of chosen

-- under an order of its sites, by flows of both programs: an unfolding from the claim of the output or of a recurrence pair stops so against claims whose members are found
pub record UnfoldingStops (budget : ℕ) (pair : Pair) (output : ℕ) (stop : UnfoldStop) : Type 0 where
  pub widening : Widening
  pub is_widening : IsWideningOf pair output widening
  pub order : Position × Position → Order
  pub of_sites : IsOrderOfSites pair output order
  pub left_flow : Flow
  pub right_flow : Flow
  pub flows : HaveFlows pair left_flow right_flow
  pub widening_points : List WideningPointOf
  pub known : AreKnown pair output widening order widening_points
  pub found : AreFound pair output widening order left_flow right_flow widening_points
  pub start : Claim
  pub starts : IsStartAmong pair output widening_points start
  pub stops : IsStopOf (unfolding_in pair output widening order start) left_flow right_flow (map claim_of widening_points) budget stop
