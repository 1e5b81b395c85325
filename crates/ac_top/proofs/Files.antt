-- The file for a proof.
use Rattle.std.proofs.Common.{◌≡◌, ◌≢◌, ℕ, List, [], ◌∷◌, map, Some, refl, ap, subst}
use Rattle.ac_claims.specs.declared.types.Proof.{Proof}
use Rattle.ac_prooftext.specs.ProofTexts.{proof_text}
use Rattle.ac_walk.specs.Verdicts.{named}
use Rattle.ac_top.specs.ProveReports.{IsFileOf, whole_text}
use Rattle.ac_top.specs.Reports.{ProofFile}

some_output : (os : List (ℕ × ℕ)) → os ≢ [] → map (λ o. o.0) os ≢ []
some_output [] h e = absurd (h refl)
some_output (o ∷ os) h e = absurd cc

pub names_none : (proof : Proof) → proof.outputs ≡ [] → named proof ≡ []
names_none proof h = ap (map (λ o. o.0)) h

pub of_proof : (proof : Proof) (name : List ℕ) (file : ProofFile) → proof.outputs ≢ [] → file.name ≡ name → file.bytes ≡ proof_text proof → IsFileOf proof (Some name) (Some file)
of_proof proof name file h is text = subst (λ n. IsFileOf proof (Some n) (Some file)) is (whole_text file (some_output proof.outputs h) text)
