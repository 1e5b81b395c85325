use Rattle.std.proofs.Common.{rules, ◌≡◌, ◌<◌, ◌^◌, ℕ, decimal, MatchOption, sym, subst}
use Rattle.std.proofs.lemmas.Fmt.{parse-decimal}
use Rattle.ac_cli_args.proofs.numbers.natural.Goals as goal

pub returns-in_err-value : goal.returns-in_err-value
returns-in_err-value c =
    subst (λ r. MatchOption r ((n : ℕ) → n < 2 ^ 64 → ¬ (c.args.text.now ≡ decimal n)) (λ n. c.args.text.now ≡ decimal n)) (sym c.from_residual.ensures)
    (λ n fits e. absurd (search (rules, parse-decimal 64 n c.args.text.now c.parse.result fits fits e c.parse.ensures.value.0)))

pub returns-else-eq : goal.returns-else-eq
returns-else-eq c = λ n fits e. search (rules, parse-decimal 64 n c.args.text.now c.parse.result fits fits e c.parse.ensures.value.0)
