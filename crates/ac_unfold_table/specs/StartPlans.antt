-- The plans of a start.
use Rattle.std.specs.Prelude.{◌≡◌, ◌+◌, ℕ, List, length, map}
use Rattle.std.specs.List.{AllByRecursion}
use Rattle.ac_syntax.specs.declared.tree.Order.{Order}
use Rattle.ac_syntax.specs.declared.tree.Site.{Site}
use Rattle.ac_claims_paths.specs.ModelCalls.{pairing}
use Rattle.ac_claims.specs.ProofFaults.{domain}
use Rattle.ac_claims.specs.RemainingPlans.{count_by}
use Rattle.ac_claims.specs.declared.types.Claim.{Claim}
use Rattle.ac_claims.specs.declared.types.ClaimTree.{ClaimTree}
use Rattle.ac_unfold_plans.specs.PlanStops.{claim_positions}
use Rattle.ac_claims_plans.specs.DuePlans.{pairs_of, pieces_of, AreNumbered, StartsAccepted}
use Rattle.ac_unfold_plans.specs.TabledUse.{HaveClaimModuli, UsesTabledFromStart}
use Rattle.ac_unfold_plans.specs.PairStops.{Stopped, StopsFrom}
use Rattle.ac_unfold.specs.UnfoldPaths.{ArePlansOf}
use Rattle.ac_unfold.specs.StartResults.{HasDomains}
use Rattle.ac_unfold.specs.ReadySetting.{IsSettled}
use Rattle.ac_unfold.specs.SearchPlanStops.{IsStoppedAt}
use Rattle.ac_unfold.specs.declared.types.ProgramFlows.{ProgramFlows}

-- the plans of a start with this number, one for each pair of pieces: a judge of proofs accepts them where the claims, numbered from the base on, and the tabled
-- ones behind them are among its claims; and they stop at these
pub record AreTreesOf (program_flows : ProgramFlows) (base : ℕ) (claims tabled : List Claim) (order : List (Site × Order)) (number : ℕ) (start : Claim) (trees : List ClaimTree) : Type 0 where
  pub claim : ArePlansOf number trees
  pub domains : HasDomains (pairing program_flows.programs) start
  pub pieces : map pieces_of trees ≡ pairs_of (count_by (domain program_flows.programs.left.now start.left)) (count_by (domain program_flows.programs.right.now start.right))
  pub accepted : IsSettled program_flows → (cs : List Claim) → AreNumbered base claims cs → AreNumbered (base + length claims) tabled cs → AllByRecursion (StartsAccepted (pairing program_flows.programs) cs start) trees
  pub stops : (g : Stopped) → IsStoppedAt program_flows order base claims tabled g → AllByRecursion (λ (t : ClaimTree). StopsFrom g (claim_positions start) t.tree) trees

-- where the setting is settled and each modulus in the rows of the tabled claims is at least 1, the plans of a start use these
abbrev pub UseTabled : ProgramFlows → List Claim → Claim → List ClaimTree → Type 0
UseTabled program_flows tabled start trees = IsSettled program_flows → HaveClaimModuli tabled → AllByRecursion (UsesTabledFromStart (pairing program_flows.programs) tabled start) trees
