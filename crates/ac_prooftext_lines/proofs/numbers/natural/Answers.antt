use Rattle.std.proofs.Common.{rules, ◌≡◌, sym, ◌∙◌, arith}
use Rattle.ac_prooftext_lines.proofs.Numerals.{same_number, of_64}
use Rattle.ac_prooftext_lines.proofs.numbers.natural.Goals as goal

pub returns-else-value : goal.returns-else-value
returns-else-value c = λ n fits e. let same : n ≡ c.in-Some.value = same_number n c.in-Some.value (of_64 n fits) (search rules) (sym e ∙ c.in-Some.ensures) in omega (arith, same, fits, c.if-value.false)
