-- What holds of parts as they grow, and of the proofs that they are added to.
use Rattle.std.specs.Prelude.{◌≡◌, ◌+◌, ℕ, List, [], ◌∷◌, Bool, Some, length, slice_get}
use Rattle.std.specs.List.{AllByRecursion}
use Rattle.ac_forms.specs.declared.row.Row.{Row}
use Rattle.ac_syntax.specs.declared.tree.Order.{Order}
use Rattle.ac_syntax.specs.declared.tree.Pair.{Pair}
use Rattle.ac_syntax.specs.declared.tree.Position.{Position}
use Rattle.ac_claims_paths.specs.PathSteps.{Pairing}
use Rattle.ac_claims.specs.declared.types.Claim.{Claim}
use Rattle.ac_claims.specs.declared.types.ClaimTree.{ClaimTree}
use Rattle.ac_claims.specs.declared.types.Proof.{Proof}
use Rattle.ac_unfold_plans.specs.ProofDecisions.{AreNamed}
use Rattle.ac_unfold_plans.specs.PlanStops.{IsStopping, claim_positions, programs_of}
use Rattle.ac_walk_state.specs.ProofParts.{IsAccepted, IsPartFor, in_part}
use Rattle.ac_walk_state.specs.ClaimPlans.{ArePlanned, IsClaimPlanned}
use Rattle.ac_walk_state.specs.PartStops.{IsPartStopping, StopsFrom, TreeStops}
use Rattle.ac_walk_state.specs.declared.types.Part.{Part}

-- with a claim that has its plans, all claims of the longer part have theirs
abbrev pub StaysPlanned : Part → Claim → List ClaimTree → Part → Type 0
StaysPlanned part claim trees longer =
    (g : Pairing) (cs : List Claim) (first : ℕ) → ArePlanned g cs first part.claims.items part.trees.items → IsClaimPlanned g cs (first + length part.claims.items) claim trees → ArePlanned g cs first longer.claims.items longer.trees.items

-- with plans that stop from the pair of their claim on, all plans of the longer part stop
abbrev pub StaysStopping : Part → Claim → List ClaimTree → Part → Type 0
StaysStopping part claim trees longer =
    (pair : Pair) (order : Position × Position → Order) (recurrent : Position × Position → Bool) (numbers : ℕ → Bool) (cs : List Claim) (number : ℕ) → AllByRecursion (TreeStops pair order recurrent numbers cs) part.trees.items → slice_get cs number ≡ Some claim
    → AllByRecursion (λ (t : ClaimTree). t.claim ≡ number) trees → AllByRecursion (λ (t : ClaimTree). StopsFrom pair order recurrent numbers (claim_positions claim) t.tree) trees → AllByRecursion (TreeStops pair order recurrent numbers cs) longer.trees.items

-- with a part for an output, an accepted proof is accepted
abbrev pub StaysAccepted : Proof → Part → ℕ → Proof → Type 0
StaysAccepted proof part array longer = (g : Pairing) (outputs : List ℕ) → IsAccepted g outputs proof → IsPartFor g outputs array proof.claims part → IsAccepted g outputs longer

-- and it stops at the recurrence pairs with the claims of the part, where this does, and names the output by one of them
abbrev pub StopsWithPart : Proof → Part → ℕ → Proof → Type 0
StopsWithPart proof part array longer =
    (pair : Pair) (order : Position × Position → Order) (recurrent : Position × Position → Bool) (template : Position × Position → List Row) (outputs : List ℕ) → IsAccepted (programs_of pair) outputs proof → IsPartFor (programs_of pair) outputs array proof.claims part
    → IsPartStopping pair order recurrent template (in_part (length proof.claims) (length part.claims.items)) proof.claims part → IsStopping pair order recurrent template (in_part (length proof.claims) (length part.claims.items)) longer

abbrev pub NamesWithPart : Proof → Part → ℕ → Proof → Type 0
NamesWithPart proof part array longer = (g : Pairing) (outputs : List ℕ) → IsPartFor g outputs array proof.claims part → AreNamed longer (in_part (length proof.claims) (length part.claims.items)) (array ∷ [])
