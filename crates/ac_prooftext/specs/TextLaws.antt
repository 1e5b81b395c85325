-- What holds of all texts.
use Rattle.std.specs.Prelude.{◌≡◌, ℕ, List, is_some}
use Rattle.ac_claims.specs.ProofMachine.{lines_of}
use Rattle.ac_claims.specs.declared.types.Proof.{Proof}
use Rattle.ac_prooftext.specs.ProofTexts.{IsSpelling, IsTextFault, IsSpelledProof, proof_text, deepest}

-- the text of a spelled proof is a spelling
abbrev pub ProofsAreSpelled : Type 0
ProofsAreSpelled = (p : Proof) → IsSpelledProof p → IsSpelling (proof_text p) (deepest (is_some p.heads) (lines_of p))

-- and no spelling has a fault
abbrev pub SpellingsHaveNoFault : Type 0
SpellingsHaveNoFault = (text : List ℕ) (depth line before : ℕ) → IsSpelling text depth → ¬ (IsTextFault text line before)

-- two spelled proofs with one text have the same lines, and both state the shapes of programs or neither does
abbrev pub TextsAreOfOneProof : Type 0
TextsAreOfOneProof = (p q : Proof) → IsSpelledProof p → IsSpelledProof q → proof_text p ≡ proof_text q → (is_some p.heads ≡ is_some q.heads) × (lines_of p ≡ lines_of q)
