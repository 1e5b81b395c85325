use Rattle.std.proofs.Common.{rules, ◌≡◌, ◌∙◌, ap, List, ℤ, ◌++◌, ◌∷◌, [], FitsSigned}
use Rattle.std.specs.Int.{w128}
use Rattle.std.proofs.lemmas.Int.{to_z-of_z}
use Rattle.ac_forms.specs.Affine.{Affine}
use Rattle.ac_legal_text.proofs.Lines.{some_arm, none_arm, no_word, no_constant, no_coefficients, time_made}
use Rattle.ac_legal_text.proofs.times.push_time.Goals as goal

pub returns-in_default : goal.returns-in_default
returns-in_default c = no_word c.args.columns c.args.text.now c.in_default.ensures

pub returns-in_default-number_at : goal.returns-in_default-number_at
returns-in_default-number_at c = no_constant c.args.columns c.args.text.now c.in-Some.words.now c.in-Some.ensures c.in_default-number_at.ensures

pub returns-in_default-2 : goal.returns-in_default-2
returns-in_default-2 c =
    no_coefficients c.args.columns c.args.text.now c.in-Some.words.now c.in-Some-number_at.terms.now c.in-Some-number_at.konst c.in-Some.ensures c.in-Some-number_at.ensures.0 c.in-Some-number_at.ensures.1 c.in-Some-number_at.ensures.2 (none_arm c.in_ok-rest.field-0 _ _ c.in_default-2.is c.in_ok-rest.ensures)

pub returns : goal.returns
returns c =
    let fits : FitsSigned w128 c.in-Some-number_at.konst = search rules in
    let cs = c.push_coefficients.new.coefs in
    let h = some_arm c.in_ok-rest.field-0 c.in-Some-2.rest _ _ c.in-Some-2.is c.in_ok-rest.ensures in
    let form : c.in_ok-from_parts.field-0 ≡ record { konst = c.in-Some-number_at.konst; coefs = cs } = (simp to_z-of_z at c.in_ok-from_parts.ensures) ∙ ap (λ (xs : List ℤ). record { konst = c.in-Some-number_at.konst; coefs = xs }) c.as_slice.ensures in (
      record { konst = c.in-Some-number_at.konst; coefs = cs },
      c.in_ok-push.ensures.ok ∙ ap (λ (f : Affine). c.args.forms.now ++ f ∷ []) form,
      record { constant = c.in-Some-number_at.ensures.0; coefficients = h.0; each = h.1 },
      time_made c.args.text.now c.in-Some.words.now c.in-Some-number_at.terms.now c.in-Some-2.rest.now c.in-Some-number_at.konst cs c.in-Some.ensures c.in-Some-number_at.ensures.2 h.2,
    )
