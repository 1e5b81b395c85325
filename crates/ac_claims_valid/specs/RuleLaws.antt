-- The judge finds no fault if and only if the rules are met.
use Rattle.std.specs.Prelude.{ℕ, ◌≡◌, ◌↔◌, List, None}
use Rattle.std.specs.List.{AllByRecursion}
use Rattle.ac_syntax.specs.Outputs.{SameOutput}
use Rattle.ac_syntax.specs.declared.tree.Pair.{Pair}
use Rattle.ac_poly.specs.declared.types.Model.{Model}
use Rattle.ac_claims_paths.specs.PathSteps.{Pairing}
use Rattle.ac_claims_paths.specs.declared.path.Path.{Path}
use Rattle.ac_claims.specs.PlanFaults.{plan_fault}
use Rattle.ac_claims.specs.ProofFaults.{IsValidProof}
use Rattle.ac_claims.specs.Soundness.{ArePaired, AreModels, ClaimsHaveModuli, pairing_of}
use Rattle.ac_claims.specs.declared.types.Claim.{Claim}
use Rattle.ac_claims.specs.declared.types.Plan.{Plan}
use Rattle.ac_claims.specs.declared.types.Proof.{Proof}
use Rattle.ac_claims_valid.specs.PlanRules.{PlanShows}
use Rattle.ac_claims_valid.specs.ProofRules.{MeetsTheRules}

-- no line of a plan fails on a path, from whatever line on, if and only if the plan meets its rules there
abbrev pub FaultlessPlansShow : Type 0
FaultlessPlansShow = (g : Pairing) (cs : List Claim) (t : Plan) (h : Path) (k : ℕ) → (plan_fault g cs t h k ≡ None) ↔ PlanShows g cs t h

-- a proof is valid if and only if it meets the rules
abbrev pub ValidProofsMeetTheRules : Type 0
ValidProofsMeetTheRules = (g : Pairing) (outputs : List ℕ) (p : Proof) → IsValidProof g outputs p ↔ MeetsTheRules g outputs p

-- so the outputs that such a proof names are the same
abbrev pub RulesNameSameOutputs : Type 0
RulesNameSameOutputs =
    (pair : Pair) (left right : Model) (proof : Proof) → ArePaired pair → AreModels pair left right → ClaimsHaveModuli proof → MeetsTheRules (pairing_of pair left right) pair.outputs proof
    → AllByRecursion (λ (o : ℕ × ℕ). SameOutput pair o.0) proof.outputs
