-- Parts of a proof in the making.
use Rattle.std.specs.Prelude.{ℕ, ◌+◌, ◌≡◌, List, [], ◌∷◌, ◌++◌, length, take, Some, slice_get}
use Rattle.std.specs.List.{AllByRecursion}
use Rattle.ac_forms.specs.ListMembers.{IsAmong}
use Rattle.ac_syntax.specs.declared.tree.Order.{Order}
use Rattle.ac_syntax.specs.declared.tree.Position.{Position}
use Rattle.ac_syntax.specs.declared.tree.Site.{Site}
use Rattle.ac_claims.specs.declared.types.Claim.{Claim}
use Rattle.ac_widen.specs.declared.derivation.Entry.{Entry}
use Rattle.ac_widen_programs.specs.PairPaths.{Unfolding}
use Rattle.ac_walk_state.specs.SearchSetting.{Widening, IsWideningOf}
use Rattle.ac_unfold_plans.specs.PlanStops.{claim_positions, programs_of}
use Rattle.ac_unfold_plans.specs.ArgumentOrders.{order_of}
use Rattle.ac_unfold.specs.Unfoldings.{IsUnfoldingOf}
use Rattle.ac_walk_state.specs.declared.known.Known.{Known}
use Rattle.ac_walk_state.specs.Elements.{IsElementClaim}
use Rattle.ac_walk_state.specs.ProofParts.{in_part}
use Rattle.ac_walk_state.specs.ClaimPlans.{ArePlanned}
use Rattle.ac_walk_state.specs.PartStops.{TreeStops}
use Rattle.ac_walk_state.specs.declared.types.Part.{Part}
use Rattle.ac_walk.specs.OutputSearch.{IsFound}
use Rattle.ac_walk.specs.StartPaths.{AreBrokenFrom, IsPathFound}
use Rattle.ac_walk.specs.declared.planning.Added.{Added}
use Rattle.ac_walk.specs.declared.planning.Added.TheVariants as added
use Rattle.ac_walk.specs.declared.planning.Planning.{Planning}
use Rattle.ac_walk.specs.declared.planning.Planning.TheVariants as planning
use Rattle.ac_walk.specs.declared.search_types.Search.{Search}

-- ---- parts

-- a claim stands at each of the pairs
abbrev pub HaveClaims : List (Position × Position) → List Claim → Type 0
HaveClaims pairs claims = (positions : Position × Position) → IsAmong positions pairs → (c : Claim) × IsAmong c claims × (claim_positions c ≡ positions)

-- a part with the first of some claims, behind others: each has its plans, which end at claims of these, and stop at the recurrence pairs
pub record IsPartly (s : Search) (order : List (Site × Order)) (all : List Claim) (part : Part) : Type 0 where
  pub claims : part.claims.items ≡ take (length part.claims.items) all
  pub planned : (before : List Claim) → length before ≡ s.first → ArePlanned (programs_of s.pair.now) (before ++ all) s.first part.claims.items part.trees.items
  pub stops : (before : List Claim) → length before ≡ s.first → (w : Widening) → IsWideningOf s.pair.now s.array w → AllByRecursion (TreeStops s.pair.now (order_of order) w.recurrent (in_part s.first (length all)) (before ++ all)) part.trees.items

-- it has the claim of the output, and the first ones of the others, so many; the plans may end at tabled claims behind all of them
pub record IsBegun (s : Search) (order : List (Site × Order)) (claims tabled : List Claim) (count : ℕ) (part : Part) : Type 0 where
  pub output : Claim
  pub is_output : IsElementClaim s.pair.now s.array output
  pub partly : IsPartly s order (output ∷ (claims ++ tabled)) part
  pub counted : length part.claims.items ≡ count + 1

-- ---- claim by claim

-- a path from a start is one for the claims
abbrev pub IsBrokenBy : Search → List (Site × Order) → List Claim → Claim → List Entry → Type 0
IsBrokenBy s order claims start path = (u : Unfolding) → IsUnfoldingOf s.program_flows.now start order u → IsPathFound s.program_flows.now u claims path

-- the next one of all claims is added
abbrev pub AddsNext : Search → List (Site × Order) → List Claim → Claim → Part → Part → Type 0
AddsNext s order all start part longer =
    (output : Claim) → slice_get (output ∷ all) (length part.claims.items) ≡ Some start → IsPartly s order (output ∷ all) part → IsPartly s order (output ∷ all) longer × (length longer.claims.items ≡ length part.claims.items + 1)

-- a start is added, with its plans; or it is broken
abbrev pub IsAdded : Search → List (Site × Order) → List Claim → List Claim → Claim → Part → Added → Type 0
IsAdded s order claims tabled start part (added.Part longer) = AddsNext s order (claims ++ tabled) start part longer
IsAdded s order claims tabled start part (added.Broken path) = IsBrokenBy s order claims start path

-- the output is, as the first one
abbrev pub IsFirstAdded : Search → List (Site × Order) → List Claim → List Claim → Added → Type 0
IsFirstAdded s order claims tabled (added.Part part) = IsBegun s order claims tabled 0 part
IsFirstAdded s order claims tabled (added.Broken path) = (output : Claim) × IsElementClaim s.pair.now s.array output × IsBrokenBy s order claims output path

-- ---- all of them

-- so many claims have their plans; or a path is broken
abbrev pub IsPlannedTo : Search → List (Site × Order) → Known → List Claim → List Claim → ℕ → Planning → Type 0
IsPlannedTo s order known claims tabled count (planning.Part part) = IsBegun s order claims tabled count part
IsPlannedTo s order known claims tabled count (planning.Broken from path) = AreBrokenFrom s order known from (path ∷ [])

abbrev pub IsPlanned : Search → List (Site × Order) → Known → Planning → Type 0
IsPlanned s order known (planning.Part part) = IsFound s.pair.now (order_of order) s.array s.first part
IsPlanned s order known (planning.Broken from path) = AreBrokenFrom s order known from (path ∷ [])
