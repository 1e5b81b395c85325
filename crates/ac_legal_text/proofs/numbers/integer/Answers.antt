use Rattle.std.proofs.Common.{◌≡◌, ℤ, List, ℕ, MatchOption, IfSome, subst, sym}
use Rattle.std.specs.Fmt.{signed_decimal}
use Rattle.ac_legal_text.specs.OrderTexts.{IsSmall}
use Rattle.ac_legal_text.proofs.Numerals.{is_text}
use Rattle.ac_legal_text.proofs.numbers.integer.Goals as goal

pub returns-in-Ok-clause-read : goal.returns-in-Ok-clause-read
returns-in-Ok-clause-read c = subst (λ (t : List ℕ). MatchOption c.canonical.result ((z : ℤ) → IsSmall z → ¬ (t ≡ signed_decimal z)) (λ z. t ≡ signed_decimal z)) c.in-Ok.ensures.cases.0 c.canonical.ensures.read

pub returns-in-Ok-clause-one : goal.returns-in-Ok-clause-one
returns-in-Ok-clause-one c = subst (λ (t : List ℕ). IfSome c.canonical.result (λ z. (y : ℤ) → IsSmall y → t ≡ signed_decimal y → y ≡ z)) c.in-Ok.ensures.cases.0 c.canonical.ensures.one

pub returns-in-Err-clause-read : goal.returns-in-Err-clause-read
returns-in-Err-clause-read c = λ z small e. c.in-Err.ensures.cases.0 (is_text z c.args.word.now small e)
