-- The theorem of the judge: a valid proof names only outputs that are the same.
use Rattle.std.specs.Prelude.{ℕ, ◌≡◌, List, [], ℤ, length, map, true, nat_eq}
use Rattle.std.specs.List.{AllByRecursion, list_any}
use Rattle.ac_forms.specs.Rows.{HaveModuli}
use Rattle.ac_syntax.specs.Index.{point, index_value}
use Rattle.ac_syntax.specs.Outputs.{IsElement, IsValuation, SameOutput, SameTermsAt, extents_at, swaps_of}
use Rattle.ac_syntax.specs.ReadyPrograms.{ReadyProgram, FitParts}
use Rattle.ac_syntax.specs.declared.tree.Pair.{Pair}
use Rattle.ac_poly.specs.Model.{model_of}
use Rattle.ac_poly.specs.declared.types.Model.{Model}
use Rattle.ac_claims_paths.specs.PathSteps.{Pairing}
use Rattle.ac_claims.specs.ProofFaults.{IsValidProof}
use Rattle.ac_claims.specs.declared.types.Claim.{Claim}
use Rattle.ac_claims.specs.declared.types.Proof.{Proof}

-- two programs that are ready, over parameters that are as many, under a context over these; an output has the same extents
-- in both, wherever these stand in a text
pub record ArePaired (pair : Pair) : Type 0 where
  pub left : ReadyProgram pair.left
  pub right : ReadyProgram pair.right
  pub context : FitParts (length pair.left.params) 0 pair.context.parts
  pub params : length pair.right.params ≡ length pair.left.params
  pub extents : (o : ℕ) → list_any (nat_eq o) pair.outputs ≡ true → (params : List ℤ) → map (index_value (point params [])) (extents_at pair.right.arrays o) ≡ map (index_value (point params [])) (extents_at pair.left.arrays o)

-- the models of both programs under the pair's context
pub record AreModels (pair : Pair) (left right : Model) : Type 0 where
  pub left_is : left ≡ model_of pair.left pair.context
  pub right_is : right ≡ model_of pair.right pair.context

-- what a proof of a pair is checked against
abbrev pub pairing_of : Pair → Model → Model → Pairing
pairing_of pair left right = record { params = left.params; left = left; right = right; swaps = swaps_of pair.commutative }

-- each modulus of a claim's rows is at least 1
abbrev pub ClaimsHaveModuli : Proof → Type 0
ClaimsHaveModuli proof = AllByRecursion (λ (c : Claim). HaveModuli c.rows) proof.claims

-- at each valuation of the context both programs leave terms that agree in each element of the output
abbrev pub TermsAgree : Pair → ℕ → Type 0
TermsAgree pair output = (params : List ℤ) → IsValuation pair params → (e : List ℤ) → IsElement pair params output e → SameTermsAt pair params output e

-- a valid proof names only outputs whose terms agree
abbrev pub ValidProofsHaveAgreeingTerms : Type 0
ValidProofsHaveAgreeingTerms =
    (pair : Pair) (left right : Model) (proof : Proof) → ArePaired pair → AreModels pair left right → ClaimsHaveModuli proof → IsValidProof (pairing_of pair left right) pair.outputs proof
    → AllByRecursion (λ (o : ℕ × ℕ). TermsAgree pair o.0) proof.outputs

-- so these outputs are the same
abbrev pub ValidProofsNameSameOutputs : Type 0
ValidProofsNameSameOutputs =
    (pair : Pair) (left right : Model) (proof : Proof) → ArePaired pair → AreModels pair left right → ClaimsHaveModuli proof → IsValidProof (pairing_of pair left right) pair.outputs proof
    → AllByRecursion (λ (o : ℕ × ℕ). SameOutput pair o.0) proof.outputs
