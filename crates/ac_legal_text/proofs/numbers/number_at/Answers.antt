use Rattle.std.proofs.Common.{rules, ◌≡◌, ◌++◌, sym, subst, ℤ, FitsSigned}
use Rattle.std.specs.Fmt.{signed_decimal}
use Rattle.std.specs.Int.{w128}
use Rattle.std.proofs.lemmas.Int.{to_z-of_z}
use Rattle.ac_legal_text.specs.Fronts.{IsEnd}
use Rattle.ac_legal_text.specs.OrderTexts.{IsSmall}
use Rattle.ac_legal_text.proofs.Numerals.{no_number, some_number}
use Rattle.ac_legal_text.proofs.numbers.number_at.Goals as goal

pub returns-in_default : goal.returns-in_default
returns-in_default c = no_number c.args.text.now c.halves.result.0.now c.halves.result.1.now c.word_len.result c.halves.ensures.front c.halves.ensures.behind c.word_len.ensures.ink c.word_len.ensures.ends c.in_default.ensures

pub returns : goal.returns
returns c =
    let fits : FitsSigned w128 c.in-Some.number = search rules in
    subst (λ (y : ℤ). IsSmall y × IsEnd c.halves.result.1.now × (c.args.text.now ≡ signed_decimal y ++ c.halves.result.1.now)) (sym (to_z-of_z w128 c.in-Some.number fits))
    (some_number c.args.text.now c.halves.result.0.now c.halves.result.1.now c.word_len.result c.in-Some.number c.halves.ensures.front c.halves.ensures.behind c.word_len.ensures.ends c.in-Some.ensures.0 c.in-Some.ensures.1)
