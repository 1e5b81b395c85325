-- What is tabled was proved.
use Rattle.std.specs.Prelude.{◌≡◌, ◌+◌, ◌++◌, ◌∷◌, [], ℕ, List, length}
use Rattle.ac_syntax.specs.declared.tree.Order.{Order}
use Rattle.ac_syntax.specs.declared.tree.Site.{Site}
use Rattle.ac_forms.specs.ListMembers.{IsAmong}
use Rattle.ac_claims_paths.specs.ModelCalls.{pairing}
use Rattle.ac_claims.specs.CheckKnowledge.{IsClaimMade}
use Rattle.ac_claims.specs.declared.types.Claim.{Claim}
use Rattle.ac_unfold_plans.specs.PlanStops.{claim_positions}
use Rattle.ac_claims.specs.declared.types.ClaimTree.{ClaimTree}
use Rattle.ac_unfold_table.specs.Tables.{TableOf, Grows}
use Rattle.ac_unfold_table.specs.StartPlans.{AreTreesOf, UseTabled}
use Rattle.ac_unfold.specs.declared.types.ProgramFlows.{ProgramFlows}

-- both positions are there, and the rows are over the parameters and their coordinates; and none of the claims is of the pair
pub record IsFit (program_flows : ProgramFlows) (claims : List Claim) (c : Claim) : Type 0 where
  pub made : IsClaimMade (pairing program_flows.programs) c
  pub free : (d : Claim) → IsAmong d claims → ¬ (claim_positions d ≡ claim_positions c)

-- nothing is tabled; or one claim more behind those before, with plans that end at the claims and at those before alone and use these, by the next number
pub data IsTabled (program_flows : ProgramFlows) (base : ℕ) (claims : List Claim) (order : List (Site × Order)) : List Claim → List (List ClaimTree) → Type 0 where
  none : IsTabled program_flows base claims order [] []
  more : (before : List Claim) (done : List (List ClaimTree)) (c : Claim) (ts : List ClaimTree) (tabled : List Claim) (trees : List (List ClaimTree))
      → IsTabled program_flows base claims order before done → AreTreesOf program_flows base claims before order (base + length claims + length before) c ts → UseTabled program_flows before c ts
      → tabled ≡ before ++ c ∷ [] → trees ≡ done ++ ts ∷ [] → IsFit program_flows claims c → IsTabled program_flows base claims order tabled trees

-- so are all claims that a table has beside its own
abbrev pub AreTabled : ProgramFlows → TableOf → Type 0
AreTabled program_flows t = IsTabled program_flows t.base t.claims t.order t.tabled t.trees

-- a table grows by claims that were proved
pub record AddsTabled (program_flows : ProgramFlows) (old new : TableOf) : Type 0 where
  pub kept : Grows old new
  pub valid : AreTabled program_flows old → AreTabled program_flows new
