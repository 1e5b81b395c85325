-- The check of a text accepts a proof that is spelled so only if it meets the rules, and refuses it only if it does not.
use Rattle.std.specs.Prelude.{ℕ, ◌≡◌, List, map, Result, Ok, Err, Vec}
use Rattle.std.specs.Global.{Global}
use Rattle.ac_claims_paths.specs.PathSteps.{Pairing}
use Rattle.ac_claims.specs.declared.types.Proof.{Proof}
use Rattle.ac_prooftext.specs.ProofTexts.{IsSpelledProof, proof_text}
use Rattle.ac_prooftext.specs.StreamChecks.{IsAnswer}
use Rattle.ac_prooftext.specs.declared.types.CheckFault.{CheckFault}
use Rattle.ac_prooftext.specs.declared.types.CheckFault.TheVariants.{TooLong, TooDeep, Refused, Memory}
use Rattle.ac_claims_valid.specs.ProofRules.{MeetsTheRules}

-- accepted: it meets the rules, and its outputs are named; refused at a line: it does not meet them. Nothing is said of a text that is too long or too
-- deep, and of want of memory
abbrev pub IsByTheRules : Pairing → List ℕ → Proof → Result (Vec ℕ Global) CheckFault → Type 0
IsByTheRules g outputs p (Ok named) = MeetsTheRules g outputs p × (named.items ≡ map (λ o. o.0) p.outputs)
IsByTheRules g outputs p (Err (Refused line rule)) = ¬ MeetsTheRules g outputs p
IsByTheRules g outputs p (Err TooLong) = Unit {0}
IsByTheRules g outputs p (Err TooDeep) = Unit {0}
IsByTheRules g outputs p (Err (Memory e)) = Unit {0}

abbrev pub TextsAreJudgedByTheRules : Type 0
TextsAreJudgedByTheRules = (g : Pairing) (outputs : List ℕ) (p : Proof) (result : Result (Vec ℕ Global) CheckFault) → IsSpelledProof p → IsAnswer g outputs (proof_text p) result → IsByTheRules g outputs p result
