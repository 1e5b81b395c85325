-- The plans of a claim, at a piece of each of its positions.
use Rattle.std.specs.Prelude.{◌≡◌, ℕ, true, List, Some}
use Rattle.std.specs.List.{AllByRecursion}
use Rattle.ac_claims_paths.specs.declared.path.Path.{Path}
use Rattle.ac_claims.specs.RemainingPlans.{start_at}
use Rattle.ac_claims.specs.declared.types.Claim.{Claim}
use Rattle.ac_claims.specs.declared.types.ClaimTree.{ClaimTree}
use Rattle.ac_claims.specs.declared.types.Plan.{Plan}
use Rattle.ac_claims_plans.specs.PlanAcceptance.{AcceptsPlan}
use Rattle.ac_unfold_plans.specs.PlanStops.{claim_positions}
use Rattle.ac_unfold_plans.specs.TabledUse.{UsesTabled, UsesTabledFromStart}
use Rattle.ac_unfold_plans.specs.PairStops.{Stopped, StopsFrom}
use Rattle.ac_unfold.specs.PlanResults.{judge_of, IsGiven}
use Rattle.ac_claims_plans.specs.DuePlans.{StartsAccepted}
use Rattle.ac_unfold.specs.SearchPlanStops.{MayUseTabled, IsStoppedIn}
use Rattle.ac_unfold.specs.declared.ends.Search.{Search}

-- where plans are made, the plan stops from the pair of the claim on
unfoldable pub StopsAtStart : Search → Claim → Plan → Type 0
StopsAtStart search start t = search.making ≡ true → (g : Stopped) → IsStoppedIn search g → StopsFrom g (claim_positions start) t

-- the claim starts at these pieces, and there the plan is accepted, wherever the search is given; it stops as plans of the search do, and uses its tabled claims
pub record IsBegun (search : Search) (start : Claim) (left right : ℕ) (t : Plan) : Type 0 where
  pub path : Path
  pub starts : start_at (judge_of search) start left right ≡ Some path
  pub accepted : (cs : List Claim) → IsGiven search cs → AcceptsPlan (judge_of search) cs t path
  pub stops : StopsAtStart search start t
  pub uses_tabled : search.making ≡ true → MayUseTabled search → UsesTabled (judge_of search) search.tabled.now t.next path

pub record AreBegun (search : Search) (start : Claim) (trees : List ClaimTree) : Type 0 where
  pub accepted : (cs : List Claim) → IsGiven search cs → AllByRecursion (StartsAccepted (judge_of search) cs start) trees
  pub stop : AllByRecursion (λ (t : ClaimTree). StopsAtStart search start t.tree) trees
  pub use_tabled : search.making ≡ true → MayUseTabled search → AllByRecursion (UsesTabledFromStart (judge_of search) search.tabled.now start) trees
