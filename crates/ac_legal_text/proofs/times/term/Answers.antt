use Rattle.std.proofs.Common.{◌≡◌, ◌≢◌, ◌∙◌, ◌++◌, pos, rules, sym, subst, ℤ, FitsSigned}
use Rattle.std.specs.Int.{w128}
use Rattle.std.proofs.lemmas.Int.{to_z-of_z}
use Rattle.ac_prooftext_lines.specs.LineWords.{further}
use Rattle.ac_prooftext_lines.specs.Spelling.{term_words}
use Rattle.ac_legal_text.specs.OrderTexts.{IsSmall}
use Rattle.ac_legal_text.proofs.Terms.{zero_read, number_read, zero_stands, none_stands, null_stands, number_stands}
use Rattle.ac_legal_text.proofs.times.term.Goals as goal

pub returns-in_default-clause-read : goal.returns-in_default-clause-read
returns-in_default-clause-read c = zero_read c.args.text.now c.args.column

pub returns-in_default-clause-whole : goal.returns-in_default-clause-whole
returns-in_default-clause-whole c = λ a cs t small room e. zero_stands c.args.text.now c.args.column c.in_default.ensures a cs t e

pub returns-in_default-number_at-clause-whole : goal.returns-in_default-number_at-clause-whole
returns-in_default-number_at-clause-whole c = none_stands c.args.text.now c.in-Some.digits.now c.args.column c.in-Some.ensures c.in_default-number_at.ensures

pub returns-then-number-eq0-clause-whole : goal.returns-then-number-eq0-clause-whole
returns-then-number-eq0-clause-whole c =
    null_stands c.args.text.now c.in-Some.digits.now c.in-Some-number_at.rest.now c.args.column c.in-Some-number_at.number c.in-Some.ensures c.in-Some-number_at.ensures.0 c.in-Some-number_at.ensures.1 c.in-Some-number_at.ensures.2
    (search (rules, c.if-number-eq0.true))

pub returns-clause-read : goal.returns-clause-read
returns-clause-read c =
    let fits : FitsSigned w128 c.in-Some-number_at.number = search rules in
    subst (λ (y : ℤ). IsSmall y × (c.args.text.now ≡ further (term_words c.args.column y) ++ c.in-Some-number_at.rest.now)) (sym (to_z-of_z w128 c.in-Some-number_at.number fits))
    (number_read c.args.text.now c.in-Some.digits.now c.in-Some-number_at.rest.now c.args.column c.in-Some-number_at.number c.in-Some.ensures c.in-Some-number_at.ensures.0 c.in-Some-number_at.ensures.2
    (λ z. c.if-number-eq0.false (search (rules, z))))

pub returns-clause-whole : goal.returns-clause-whole
returns-clause-whole c =
    let fits : FitsSigned w128 c.in-Some-number_at.number = search rules in
    λ a cs t small room e.
    let h = number_stands c.args.text.now c.in-Some.digits.now c.in-Some-number_at.rest.now c.args.column c.in-Some-number_at.number c.in-Some.ensures c.in-Some-number_at.ensures.0 c.in-Some-number_at.ensures.1 c.in-Some-number_at.ensures.2 a cs t small room e in
    (to_z-of_z w128 c.in-Some-number_at.number fits ∙ h.0, h.1)
