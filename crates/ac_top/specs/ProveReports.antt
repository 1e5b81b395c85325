-- What `prove` reports of a pair: a verdict for each output, and the file that shows which are equal.
use Rattle.std.specs.Prelude.{◌≡◌, ◌≢◌, ℕ, ℤ, List, [], Option, None, Some}
use Rattle.std.specs.List.{AllByRecursion, Contains}
use Rattle.ac_syntax.specs.Outputs.{IsValuation, SameOutput}
use Rattle.ac_syntax.specs.declared.tree.Pair.{Pair}
use Rattle.ac_flow.specs.Contexts.{ContextStops}
use Rattle.ac_flow.specs.declared.types.ContextStop.TheVariants.{EmptyContext}
use Rattle.ac_claims.specs.declared.types.Proof.{Proof}
use Rattle.ac_prooftext.specs.ProofTexts.{proof_text}
use Rattle.ac_report.specs.Layouts.{layout_of}
use Rattle.ac_report.specs.ReportTexts.{report_lines}
use Rattle.ac_report.specs.declared.types.Verdict.{Verdict}
use Rattle.ac_walk.specs.TriedValuations.{AreTried}
use Rattle.ac_walk.specs.UnknownCauses.{IsAnswered, left_model}
use Rattle.ac_walk.specs.Verdicts.{AreMatched, AreVerdicts, IsAccepted, IsDifferentAt, equal_outputs, named}
use Rattle.ac_top.specs.Reports.{Report, report, ProofFile}
use Rattle.ac_top.specs.Statuses.{status_of}
use Rattle.ac_top.specs.ConsoleLines.{empty_context_line}
use Rattle.ac_top.specs.declared.status.Status.TheVariants as status

-- a proof of what the verdicts say: it names exactly the outputs that are equal, and where it names one the check of proofs accepts it
pub record IsProofOf (pair : Pair) (verdicts : List Verdict) (proof : Proof) : Type 0 where
  pub names : named proof ≡ equal_outputs pair.outputs verdicts
  pub accepted : named proof ≢ [] → IsAccepted pair proof

-- the file for a proof: none where no name is given, or where no output is equal; else it holds the proof's text
pub data IsFileOf (proof : Proof) : Option (List ℕ) → Option ProofFile → Type 0 where
  no_name : IsFileOf proof None None
  none_equal : (name : List ℕ) → named proof ≡ [] → IsFileOf proof (Some name) None
  whole_text : (file : ProofFile) → named proof ≢ [] → file.bytes ≡ proof_text proof → IsFileOf proof (Some file.name) (Some file)

-- what is reported: that no valuation meets the context, as its question shows at the budget; or the verdicts on the outputs, with the file for
-- their proof, where some order of each equal output has no mismatch, and each is unknown or different if the question of the context or a flow
-- stops at the budget, and else is as the search at the budget ends, and of each that is unknown the valuations that are tried show no difference
pub data ProveReports (pair : Pair) (budget : ℕ) (name : Option (List ℕ)) : Report → Type 0 where
  empty_context : ContextStops budget (left_model pair) EmptyContext → ((params : List ℤ) → ¬ (IsValuation pair params)) → ProveReports pair budget name (report status.Refused empty_context_line)
  compared : (verdicts : List Verdict) (proof : Proof) (file : Option ProofFile) → AreVerdicts pair pair.outputs verdicts → AreMatched pair pair.outputs verdicts → IsAnswered budget pair verdicts → AreTried budget pair pair.outputs verdicts → IsProofOf pair verdicts proof → IsFileOf proof name file
      → ProveReports pair budget name (record { status = status_of verdicts; text = report_lines (layout_of pair.left) pair.outputs verdicts; proof = file })

-- these bytes are the text of a proof that the check of proofs accepts; it names some output, and each that it names is the same
pub record ShowsEqual (pair : Pair) (bytes : List ℕ) : Type 0 where
  pub proof : Proof
  pub text : bytes ≡ proof_text proof
  pub accepted : IsAccepted pair proof
  pub some : named proof ≢ []
  pub same : AllByRecursion (SameOutput pair) (named proof)

-- at a valuation of the context some output has an element whose terms do not agree
pub record HasDifference (pair : Pair) : Type 0 where
  pub output : ℕ
  pub among : Contains pair.outputs output
  pub params : List ℤ
  pub element : List ℤ
  pub is : IsDifferentAt pair output params element
