-- Broken paths of one start.
use Rattle.std.specs.Prelude.{ℕ, ◌≡◌, List, Option, Some, None, unwrap_or, slice_get}
use Rattle.std.specs.List.{AllByRecursion}
use Rattle.ac_syntax.specs.declared.tree.Order.{Order}
use Rattle.ac_syntax.specs.declared.tree.Site.{Site}
use Rattle.ac_claims.specs.declared.types.Claim.{Claim}
use Rattle.ac_widen.specs.declared.derivation.Entry.{Entry}
use Rattle.ac_widen_programs.specs.BrokenPaths.{IsBroken}
use Rattle.ac_widen_programs.specs.PairPaths.{Unfolding}
use Rattle.ac_unfold.specs.FoundPaths.{IsFoundAt}
use Rattle.ac_unfold.specs.Unfoldings.{IsUnfoldingOf}
use Rattle.ac_unfold.specs.declared.types.ProgramFlows.{ProgramFlows}
use Rattle.ac_walk_state.specs.RecurrencePairs.{WideningPointOf, claim_of}
use Rattle.ac_walk_state.specs.OrderKnowledge.{claims_of}
use Rattle.ac_walk_state.specs.declared.known.Known.{Known}
use Rattle.ac_walk_state.specs.Elements.{IsElementClaim}
use Rattle.ac_walk.specs.declared.search_types.Search.{Search}

-- the claim with a number, or that of the output
abbrev pub start_among : Claim → List Claim → Option ℕ → Claim
start_among output claims (Some at) = unwrap_or (slice_get claims at) output
start_among output claims None = output

-- the claim from which paths begin: that of the widening point with the number, or that of the output
abbrev pub IsStartOf : Search → Known → Option ℕ → Claim → Type 0
IsStartOf s known (Some at) claim = (widening_point : WideningPointOf) × (slice_get known.widening_points.items at ≡ Some widening_point) × (claim ≡ claim_of widening_point)
IsStartOf s known None claim = IsElementClaim s.pair.now s.array claim

-- the path is broken for the claims, and an unfolding against these finds it
pub record IsPathFound (program_flows : ProgramFlows) (u : Unfolding) (claims : List Claim) (path : List Entry) : Type 0 where
  pub broken : IsBroken u claims path
  pub found : IsFoundAt u program_flows.left_flow.now program_flows.right_flow.now claims path

-- paths from there for the claims of the widening points
pub record AreBrokenFrom (s : Search) (order : List (Site × Order)) (known : Known) (from : Option ℕ) (paths : List (List Entry)) : Type 0 where
  pub claim : Claim
  pub start : IsStartOf s known from claim
  pub broken : (u : Unfolding) → IsUnfoldingOf s.program_flows.now claim order u → AllByRecursion (IsPathFound s.program_flows.now u (claims_of known)) paths
