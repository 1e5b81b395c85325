-- The items of a plan drive the machine to the plan's first fault, and the lines of a proof to the verdict on it.
use Rattle.std.specs.Prelude.{◌≡◌, ℕ, List, [], ◌∷◌, None}
use Rattle.ac_claims_paths.specs.PathSteps.{Pairing}
use Rattle.ac_claims.specs.Machine.{PlanAt, run, IsSpelled}
use Rattle.ac_claims.specs.PlanFaults.{plan_fault}
use Rattle.ac_claims.specs.ProofMachine.{items_of, lines_of, AreSpelledTrees}
use Rattle.ac_claims.specs.Steppers.{after_all, beginning, answer_of, verdict}
use Rattle.ac_claims_paths.specs.declared.path.Path.{Path}
use Rattle.ac_claims.specs.declared.types.Claim.{Claim}
use Rattle.ac_claims.specs.declared.types.Plan.{Plan}
use Rattle.ac_claims.specs.declared.types.Proof.{Proof}

-- at a path, with the first item on line k
abbrev pub ItemsDriveThePlan : Type 0
ItemsDriveThePlan =
    (g : Pairing) (claims : List Claim) (plan : Plan) (h : Path) (k : ℕ) → IsSpelled plan.next → run g claims (λ j due. None) (items_of plan) k (PlanAt h ∷ []) ≡ plan_fault g claims plan h k

abbrev pub LinesDriveTheProof : Type 0
LinesDriveTheProof = (g : Pairing) (outputs : List ℕ) (p : Proof) → AreSpelledTrees p.trees.items → answer_of (after_all g outputs (lines_of p) beginning).came ≡ verdict g outputs p
