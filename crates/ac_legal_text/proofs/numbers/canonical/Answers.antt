use Rattle.std.proofs.Common.{rules, ◌≡◌, ◌∙◌, sym, FitsSigned}
use Rattle.std.specs.Int.{w128}
use Rattle.std.proofs.lemmas.Int.{to_z-of_z}
use Rattle.ac_legal_text.proofs.Numerals.{parsed, same_value}
use Rattle.ac_legal_text.proofs.numbers.canonical.Goals as goal

pub returns-in_default-clause-read : goal.returns-in_default-clause-read
returns-in_default-clause-read c = λ z small e. absurd (search (rules, parsed z c.args.text.now c.parse.result small e c.parse.ensures.value.0))

pub returns-then-eq-clause-one : goal.returns-then-eq-clause-one
returns-then-eq-clause-one c =
    let fits : FitsSigned w128 c.in-Ok.value = search rules in
    λ y small e. same_value y c.in-Ok.value c.parse.result (parsed y c.args.text.now c.parse.result small e c.parse.ensures.value.0) c.in-Ok.is ∙ sym (to_z-of_z w128 c.in-Ok.value fits)

pub returns-else-eq-clause-read : goal.returns-else-eq-clause-read
returns-else-eq-clause-read c = λ z small e. absurd (search (rules, parsed z c.args.text.now c.parse.result small e c.parse.ensures.value.0))
