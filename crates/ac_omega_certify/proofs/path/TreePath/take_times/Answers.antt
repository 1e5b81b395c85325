use Rattle.std.proofs.Common.{◌≡◌, ℤ, pos, ◌-ℤ◌, refl, sym, ap, ◌∙◌}
use Rattle.ac_base.proofs.Bits.{read_back}
use Rattle.ac_forms.specs.Affine.{coef}
use Rattle.ac_forms.specs.Fits.{Fits}
use Rattle.ac_forms.specs.FormOrder.{modulus_of}
use Rattle.ac_forms.specs.Rows.{form_of}
use Rattle.ac_forms.specs.declared.row.Row.TheVariants.{Div}
use Rattle.ac_omega_certify.proofs.QuotientSteps.{none_taken, sum_taken, divisibility_taken, adds-once, zero_test, turned_made}
use Rattle.ac_omega_certify.proofs.SpreadNumbers.{small-turned}
use Rattle.ac_omega_certify.proofs.path.TreePath.take_times.Goals as goal

pub returns-then-coef-eq0-clause-leads : goal.returns-then-coef-eq0-clause-leads
returns-then-coef-eq0-clause-leads c = λ start path names e h s a v.
    let fits : Fits c.coef-coef.result = record { sfits = c.coef-coef.type_inv } in
    let is : coef c.args.z (form_of c.args.row.now) ≡ c.coef-coef.result = rw (c.coef-coef.ensures, c.form.ensures) refl in
    none_taken c.args.self.now start path names c.args.place c.args.z e c.args.row.now (is ∙ zero_test c.coef-coef.result fits c.if-coef-eq0.true) h s

pub returns-in_ok-sum-in-Div-clause-leads : goal.returns-in_ok-sum-in-Div-clause-leads
returns-in_ok-sum-in-Div-clause-leads c = λ start path names e h s a v.
    let fits : Fits c.coef-coef.result = record { sfits = c.coef-coef.type_inv } in
    let is : c.coef-coef.result ≡ coef c.args.z (form_of c.args.row.now) = rw (c.coef-coef.ensures, c.form.ensures) refl in
    let turned : Fits (pos 0 -ℤ c.coef-coef.result) = small-turned c.coef-coef.result (rw is c.requires) in
    let m = c.modulus-modulus.result in
    let wide : Fits m = record { sfits = c.modulus-modulus.type_inv } in
    let same : c.in-Div.field-0 ≡ m = sym (c.modulus-modulus.ensures ∙ ap modulus_of c.in-Div.is) in
    let row : c.args.row.now ≡ Div m c.in-Div.field-1 = c.in-Div.is ∙ ap (λ (n : ℤ). Div n c.in-Div.field-1) same in
    divisibility_taken c.args.self.now c.show_replaced_divisibility.new.self start path names c.args.place c.args.equality c.in_ok-sum-in-Div.sum c.args.z (pos 0 -ℤ c.coef-coef.result) m c.in-Div.field-1 e c.args.row.now
    row (turned_made c.coef-coef.result (coef c.args.z (form_of c.args.row.now)) is) (simp read_back at c.in_ok-sum-in-Div.ensures.leads) h s a v

pub returns-in_ok-sum-in-Eq-clause-leads : goal.returns-in_ok-sum-in-Eq-clause-leads
returns-in_ok-sum-in-Eq-clause-leads c = λ start path names e h s a v.
    let fits : Fits c.coef-coef.result = record { sfits = c.coef-coef.type_inv } in
    let is : c.coef-coef.result ≡ coef c.args.z (form_of c.args.row.now) = rw (c.coef-coef.ensures, c.form.ensures) refl in
    let turned : Fits (pos 0 -ℤ c.coef-coef.result) = small-turned c.coef-coef.result (rw is c.requires) in
    sum_taken c.args.self.now c.add_two.new.self start path names c.args.place c.args.equality c.in_ok-sum-in-Eq.sum c.args.z (pos 0 -ℤ c.coef-coef.result) e c.args.row.now
    (adds-once c.args.row.now c.in-Eq.is) (turned_made c.coef-coef.result (coef c.args.z (form_of c.args.row.now)) is) (simp read_back at c.in_ok-sum-in-Eq.ensures.leads) h s a v
