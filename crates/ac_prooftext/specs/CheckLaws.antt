-- What holds of the answers on streams.
use Rattle.std.specs.Prelude.{◌≡◌, ◌<◌, ℕ, List, length, is_some, Result, Ok, Err, Vec}
use Rattle.std.specs.Global.{Global}
use Rattle.ac_claims_paths.specs.PathSteps.{Pairing}
use Rattle.ac_claims.specs.ProofMachine.{lines_of}
use Rattle.ac_claims.specs.Steppers.{answer_of, verdict}
use Rattle.ac_claims.specs.declared.types.Proof.{Proof}
use Rattle.ac_prooftext.specs.ProofTexts.{deepest, IsSpelling, IsTextFault, IsSpelledProof, proof_text}
use Rattle.ac_prooftext.specs.StreamChecks.{max_bytes, max_depth, IsTooDeep, IsAnswer, behind}
use Rattle.ac_prooftext.specs.declared.types.CheckFault.{CheckFault}
use Rattle.ac_prooftext.specs.declared.types.CheckFault.TheVariants.{TooLong, TooDeep, Refused, Memory}

-- the check of the items of a spelling answers the verdict on each proof that is spelled so
abbrev pub AnswersAreVerdicts : Type 0
AnswersAreVerdicts =
    (g : Pairing) (outputs text : List ℕ) (depth : ℕ) (s : IsSpelling text depth) (p : Proof) → IsSpelledProof p → text ≡ proof_text p → answer_of (behind g outputs s.items).came ≡ verdict g outputs p

-- a text that is too deep has neither a fault nor a spelling with less depth before it
abbrev pub DeepTextsStayDeep : Type 0
DeepTextsStayDeep = (text : List ℕ) (line depth : ℕ) → IsTooDeep text → IsTextFault text line depth → max_depth < depth

abbrev pub DeepSpellingsAreDeep : Type 0
DeepSpellingsAreDeep = (text : List ℕ) (depth : ℕ) → IsTooDeep text → IsSpelling text depth → max_depth < depth

-- an answer on a spelled proof: its text is too long, its branches are too deep, or this is the verdict. Want of memory tells nothing
abbrev pub IsAnswerOn : Pairing → List ℕ → Proof → Result (Vec ℕ Global) CheckFault → Type 0
IsAnswerOn g outputs p (Ok v) = verdict g outputs p ≡ Ok v.items
IsAnswerOn g outputs p (Err TooLong) = max_bytes < length (proof_text p)
IsAnswerOn g outputs p (Err TooDeep) = max_depth < deepest (is_some p.heads) (lines_of p)
IsAnswerOn g outputs p (Err (Refused line r)) = verdict g outputs p ≡ Err (line, r)
IsAnswerOn g outputs p (Err (Memory e)) = Unit {0}

-- the answer on the text of a spelled proof is that on the proof
abbrev pub WrittenProofsAreJudged : Type 0
WrittenProofsAreJudged = (g : Pairing) (outputs : List ℕ) (p : Proof) (result : Result (Vec ℕ Global) CheckFault) → IsSpelledProof p → IsAnswer g outputs (proof_text p) result → IsAnswerOn g outputs p result
