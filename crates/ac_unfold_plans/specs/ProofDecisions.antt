-- What a valid proof decides of a part that stops at the recurrence pairs.
use Rattle.std.specs.Prelude.{ℕ, ◌≡◌, List, Bool, true}
use Rattle.ac_forms.specs.declared.row.Row.{Row}
use Rattle.ac_syntax.specs.declared.tree.Order.{Order}
use Rattle.ac_syntax.specs.declared.tree.Pair.{Pair}
use Rattle.ac_syntax.specs.declared.tree.Position.{Position}
use Rattle.ac_poly.specs.declared.types.Model.{Model}
use Rattle.ac_forms.specs.ListMembers.{IsAmong}
use Rattle.ac_claims.specs.ProofFaults.{IsValidProof}
use Rattle.ac_claims.specs.Soundness.{AreModels, ClaimsHaveModuli, pairing_of}
use Rattle.ac_claims.specs.declared.types.Proof.{Proof}
use Rattle.ac_widen.specs.Claims.{Stand}
use Rattle.ac_widen.specs.Obligations.{HasMismatch}
use Rattle.ac_widen.specs.OrderRefutations.{Decided, is_equal}
use Rattle.ac_widen_programs.specs.PairSetting.{setting}
use Rattle.ac_widen_programs.specs.LawfulPairs.{AreRecurring}
use Rattle.ac_unfold_plans.specs.PlanStops.{IsStopping, claim_at, claims_of}

-- a valid proof, with a part that stops at recurrence pairs of the two programs, under an order of the arguments
pub record IsStoppedProof (pair : Pair) (order : Position × Position → Order) (recurrent : Position × Position → Bool) (template : Position × Position → List Row) (part : ℕ → Bool) (proof : Proof) : Type 0 where
  pub left : Model
  pub right : Model
  pub models : AreModels pair left right
  pub moduli : ClaimsHaveModuli proof
  pub recurring : AreRecurring pair recurrent
  pub valid : IsValidProof (pairing_of pair left right) pair.outputs proof
  pub stops : IsStopping pair order recurrent template part proof

-- the proof names each of the outputs with a claim of the part
abbrev pub AreNamed : Proof → (ℕ → Bool) → List ℕ → Type 0
AreNamed proof part outputs = (o : ℕ) → IsAmong o outputs → (i : ℕ) × IsAmong (o, i) proof.outputs × (part i ≡ true)

-- of any outputs that the proof names with claims of the part no obligation is a mismatch
abbrev pub StoppedProofsDecide : Type 0
StoppedProofsDecide =
    (pair : Pair) (order : Position × Position → Order) (recurrent : Position × Position → Bool) (template : Position × Position → List Row) (part : ℕ → Bool) (proof : Proof) → IsStoppedProof pair order recurrent template part proof
    → (outputs : List ℕ) → AreNamed proof part outputs → ¬ (HasMismatch (setting pair outputs recurrent template) order)

-- and the claims of the part stand
abbrev pub StoppedProofsStand : Type 0
StoppedProofsStand =
    (pair : Pair) (order : Position × Position → Order) (recurrent : Position × Position → Bool) (template : Position × Position → List Row) (part : ℕ → Bool) (proof : Proof) → IsStoppedProof pair order recurrent template part proof
    → (outputs : List ℕ) → AreNamed proof part outputs → Stand (setting pair outputs recurrent template) order (claim_at (claims_of part 0 proof.claims))

-- and a search over the orders of the sites, which ends with claims that stand or with refuted orders, says equal
abbrev pub SearchesSayEqual : Type 0
SearchesSayEqual =
    (pair : Pair) (order : Position × Position → Order) (recurrent : Position × Position → Bool) (template : Position × Position → List Row) (part : ℕ → Bool) (proof : Proof) → IsStoppedProof pair order recurrent template part proof
    → (outputs : List ℕ) → AreNamed proof part outputs → (d : Decided (setting pair outputs recurrent template)) → is_equal d ≡ true
