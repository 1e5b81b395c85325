-- What a verdict says of the terms that both programs leave.
use Rattle.std.specs.Prelude.{◌≡◌, ℕ, [], ◌∷◌, false}
use Rattle.ac_syntax.specs.declared.tree.Pair.{Pair}
use Rattle.ac_syntax.specs.declared.tree.Position.{Position}
use Rattle.ac_claims.specs.Soundness.{ArePaired, TermsAgree}
use Rattle.ac_widen_programs.specs.OutputAgreement.{AreOutputs}
use Rattle.ac_syntax.specs.ExecutedCalls.{HaveArities}
use Rattle.ac_report.specs.declared.types.Cause.{Cause}
use Rattle.ac_report.specs.declared.types.Cause.TheVariants.{Unmatched}
use Rattle.ac_report.specs.declared.types.Verdict.{Verdict}
use Rattle.ac_report.specs.declared.types.Verdict.TheVariants.{Equal, Different, Unknown}
use Rattle.ac_walk_state.specs.SearchSetting.{Widening, IsWideningOf}
use Rattle.ac_walk.specs.Verdicts.{IsVerdict, IsMatchedIf}

-- nothing is widened or exchanged: no pair of positions that moves reach from the output recurs, and no function is declared commutative
pub record IsPlain (pair : Pair) (output : ℕ) : Type 0 where
  pub recurs : (w : Widening) → IsWideningOf pair output w → (positions : Position × Position) → w.recurrent positions ≡ false
  pub commutative : pair.commutative ≡ []

-- the terms of the output do not all agree, where it is unmatched
abbrev pub DifferIf : Pair → ℕ → Cause → Type 0
DifferIf pair output (Unmatched refuted) = ¬ (TermsAgree pair output)
DifferIf pair output _ = Unit {0}

-- equal: they all agree; different, or unmatched: they do not
abbrev pub TellsTerms : Pair → ℕ → Verdict → Type 0
TellsTerms pair output Equal = TermsAgree pair output
TellsTerms pair output (Different at element) = ¬ (TermsAgree pair output)
TellsTerms pair output (Unknown cause) = DifferIf pair output cause

-- so the verdicts on a plain output say
abbrev pub VerdictsTellTerms : Type 0
VerdictsTellTerms =
    (pair : Pair) → ArePaired pair → HaveArities pair.left.body → HaveArities pair.right.body → (output : ℕ) → IsPlain pair output → AreOutputs pair (output ∷ []) → (verdict : Verdict)
    → IsVerdict pair output verdict → IsMatchedIf pair output verdict → TellsTerms pair output verdict
