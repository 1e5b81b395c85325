use Rattle.std.proofs.Common.{rules, ◌≡◌, ◌∙◌, sym, subst, true≢false, ℤ, FitsSigned}
use Rattle.std.specs.Fmt.{signed_decimal}
use Rattle.std.specs.Int.{w128}
use Rattle.std.proofs.lemmas.Int.{to_z-of_z}
use Rattle.ac_legal_text.specs.OrderTexts.{IsSmall}
use Rattle.ac_legal_text.proofs.Numerals.{only_small}
use Rattle.ac_legal_text.proofs.numbers.small.Goals as goal

pub returns-in_default : goal.returns-in_default
returns-in_default c = c.in_default.ensures.read

pub returns-then-is_small : goal.returns-then-is_small
returns-then-is_small c =
    let fits : FitsSigned w128 c.in-Some.value = search rules in
    (c.is_small.ensures.0 c.if-is_small.true, subst (λ (y : ℤ). c.args.word.now ≡ signed_decimal y) (sym (to_z-of_z w128 c.in-Some.value fits)) c.in-Some.ensures.read)

pub returns : goal.returns
returns c =
    let fits : FitsSigned w128 c.in-Some.value = search rules in
    only_small c.args.word.now c.in-Some.value c.in-Some.ensures.one (λ h. true≢false (sym (c.is_small.ensures.1 (subst IsSmall (sym (to_z-of_z w128 c.in-Some.value fits)) h)) ∙ c.if-is_small.false))
