use Rattle.std.proofs.Common.{rules, ◌≡◌, ℤ, FitsSigned, w64, MatchOption, sym, subst}
use Rattle.std.specs.Fmt.{signed_decimal}
use Rattle.std.proofs.lemmas.Fmt.{parse-signed_decimal}
use Rattle.ac_cli_args.proofs.numbers.canonical.Goals as goal

pub returns-in_err-value : goal.returns-in_err-value
returns-in_err-value c =
    subst (λ r. MatchOption r ((v : ℤ) → FitsSigned w64 v → ¬ (c.args.text.now ≡ signed_decimal v)) (λ v. (c.args.text.now ≡ signed_decimal v) × FitsSigned w64 v)) (sym c.from_residual.ensures)
    (λ v fits e. absurd (search (rules, parse-signed_decimal w64 v c.args.text.now c.parse.result fits (search rules) e c.parse.ensures.value.0)))

pub returns-else-eq : goal.returns-else-eq
returns-else-eq c = λ v fits e. search (rules, parse-signed_decimal w64 v c.args.text.now c.parse.result fits (search rules) e c.parse.ensures.value.0)
