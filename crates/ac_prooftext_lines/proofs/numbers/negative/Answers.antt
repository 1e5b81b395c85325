use Rattle.std.proofs.Common.{rules, ◌≡◌, ◌<◌, ◌^◌, suc, sym, ◌∙◌, arith}
use Rattle.ac_prooftext_lines.proofs.Numerals.{same_number}
use Rattle.ac_prooftext_lines.proofs.numbers.negative.Goals as goal
use Rattle.ac_prooftext_lines.proofs.numbers.negative.Goals.{then-value-eq0-via-then-value-eq0, then-value-eq0-via-else-value-eq0+then-value}

pub returns-then-value-eq0 : goal.returns-then-value-eq0
returns-then-value-eq0 c = λ n fits e.
    let small : n < 2 ^ 127 = search rules in
    let same : suc n ≡ c.in-Some.value = same_number (suc n) c.in-Some.value (omega (arith, small)) (search rules) (sym e ∙ c.in-Some.ensures) in
    elim c.then-value-eq0.branch [
      | then-value-eq0-via-then-value-eq0 w ↦ omega (arith, same, w.if-value-eq0.true)
      | then-value-eq0-via-else-value-eq0+then-value w ↦ omega (arith, same, small, w.if-value.true)
    ]
