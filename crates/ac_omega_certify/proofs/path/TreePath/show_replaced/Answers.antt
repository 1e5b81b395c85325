use Rattle.std.proofs.Common.{◌≡◌, ◌∙◌, inl, inr, ℤ, to_z, of_z, rules}
use Rattle.std.specs.Int.{w128}
use Rattle.ac_base.proofs.Bits.{again_128}
use Rattle.ac_forms.specs.Affine.{Affine}
use Rattle.ac_forms.specs.declared.row.Row.TheVariants.{Div}
use Rattle.ac_omega_certify.proofs.Equated.{add-replaced, divide-replaced}
use Rattle.ac_omega_certify.proofs.path.TreePath.show_replaced.Goals as goal

pub returns-in_ok-sum-in-Div-clause-leads : goal.returns-in_ok-sum-in-Div-clause-leads
returns-in_ok-sum-in-Div-clause-leads c = λ start path names h a b.
    let s : to_z w128 (of_z w128 c.size-size.result) ≡ c.size-size.result = search (rules, again_128) in
    let k : to_z w128 (of_z w128 c.factor-factor.result) ≡ c.factor-factor.result = search (rules, again_128) in
    let m : to_z w128 (of_z w128 c.in-Div.modulus) ≡ c.in-Div.modulus = search (rules, again_128) in
    divide-replaced c.args.self.now c.show_replaced_divisibility.new.self start path names c.args.equality.now.column c.args.equality.now.form.now c.args.row.now c.in-Div.field-1 c.args.place c.args.equality.now.place c.in_ok-sum-in-Div.sum _ _ _
    (rw m c.in-Div.is) (s ∙ c.size-size.ensures) (k ∙ rw (← c.form.ensures) c.factor-factor.ensures) c.requires.column c.requires.fits c.in_ok-sum-in-Div.ensures.leads h a b

pub returns-in_ok-sum-in-Eq-clause-leads : goal.returns-in_ok-sum-in-Eq-clause-leads
returns-in_ok-sum-in-Eq-clause-leads c = λ start path names h a b.
    let s : to_z w128 (of_z w128 c.size-size.result) ≡ c.size-size.result = search (rules, again_128) in
    let k : to_z w128 (of_z w128 c.factor-factor.result) ≡ c.factor-factor.result = search (rules, again_128) in
    add-replaced c.args.self.now c.add_two.new.self start path names c.args.equality.now.column c.args.equality.now.form.now c.args.row.now c.args.place c.args.equality.now.place c.in_ok-sum-in-Eq.sum _ _
    (s ∙ c.size-size.ensures) (k ∙ rw (← c.form.ensures) c.factor-factor.ensures) other c.requires.column c.requires.fits c.in_ok-sum-in-Eq.ensures.leads h a b
  where
    other : (m : ℤ) (f : Affine) → c.args.row.now ≡ Div m f → ⊥
    other m f e = elim c.in-Eq.is [ inl d ↦ (let x = d.1 in cc) | inr d ↦ (let x = d.1 in cc) ]
