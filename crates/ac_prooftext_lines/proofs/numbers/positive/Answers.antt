use Rattle.std.proofs.Common.{rules, ◌≡◌, ◌<◌, ◌^◌, sym, ◌∙◌, arith}
use Rattle.ac_prooftext_lines.proofs.Numerals.{same_number}
use Rattle.ac_prooftext_lines.proofs.numbers.positive.Goals as goal

pub returns-else-value : goal.returns-else-value
returns-else-value c = λ n fits e.
    let small : n < 2 ^ 127 = search rules in
    let same : n ≡ c.in-Some.value = same_number n c.in-Some.value (omega (arith, small)) (search rules) (sym e ∙ c.in-Some.ensures) in
    omega (arith, same, small, c.if-value.false)
