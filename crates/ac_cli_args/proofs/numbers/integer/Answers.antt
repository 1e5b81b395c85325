use Rattle.std.proofs.Common.{rules, ◌≡◌, ℤ, ⊎_elim, MatchOption, FitsSigned, w64, sym, subst, ◌∙◌, Option, None, Some, ℕ, List}
use Rattle.std.specs.Prelude.{codes}
use Rattle.std.specs.Fmt.{signed_decimal}
use Rattle.std.specs.Str.{IsUtf8}
use Rattle.std.proofs.lemmas.Fmt.{IsAscii-signed}
use Rattle.std.proofs.lemmas.Str.{IsUtf8-from_ascii}
use Rattle.ac_cli_args.specs.DecimalNumbers.{IsInteger}
use Rattle.ac_cli_args.proofs.Numerals.{spelling, is_integer, is_zero}
use Rattle.ac_cli_args.proofs.numbers.integer.Goals as goal

pub returns-then-eq : goal.returns-then-eq
returns-then-eq c = is_zero c.args.text.now (search rules) (search rules)

found : (text spelled : List ℕ) → spelled ≡ text → ¬ (text ≡ codes "-0") → (r : Option ℤ) → MatchOption r ((v : ℤ) → FitsSigned w64 v → ¬ (spelled ≡ signed_decimal v)) (λ v. (spelled ≡ signed_decimal v) × FitsSigned w64 v)
    → MatchOption r ((v : ℤ) → ¬ (IsInteger text v)) (IsInteger text)
found text spelled same other None h = λ v k. ⊎_elim (λ e. h v k.fits (same ∙ e)) (λ e. other e.0) (spelling text v k.spelled)
found text spelled same other (Some v) h = is_integer text v h.1 (sym same ∙ h.0)

pub returns-in-Ok : goal.returns-in-Ok
returns-in-Ok c =
    found c.args.text.now c.in-Ok.spelled.now c.in-Ok.ensures.cases.0
    (λ e. absurd (search rules)) c.canonical.result c.canonical.ensures

pub returns-in-Err : goal.returns-in-Err
returns-in-Err c = λ v k.
    c.in-Err.ensures.cases.0 (⊎_elim
    (λ e. subst IsUtf8 (sym e) (IsUtf8-from_ascii (signed_decimal v) (IsAscii-signed v (let f = k.fits in search rules))))
    (λ e. absurd (search rules))
    (spelling c.args.text.now v k.spelled))
