use Rattle.std.proofs.Common.{◌≡◌, ◌+◌, ◌-◌, ◌<◌, length, get_or, set, ap, ◌∙◌, FitsSigned, rules, arith}
use Rattle.std.specs.Int.{w128}
use Rattle.ac_base.proofs.Bits.{again_128}
use Rattle.ac_forms.specs.Affine.{Affine, coef}
use Rattle.ac_omega_certify.proofs.Names.{named_step, named_renames, named_sizes, named_end}
use Rattle.ac_omega_certify.proofs.renamed.renamed.Goals as goal

pub loop-k-preserved : goal.loop-k-preserved
loop-k-preserved c =
    let k = c.loop-k.k - 1 in
    let one : c.loop-k.k ≡ k + 1 = omega arith in
    let room : k < length c.args.names.now = omega arith in
    let fits : FitsSigned w128 c.coef.result = search rules in
    let is : c.put.new.numbers.items ≡ set c.loop-k.coefs.items (get_or c.args.names.now k 0) (coef k c.args.form.now) = c.put.ensures ∙ ap (set c.loop-k.coefs.items (get_or c.args.names.now k 0)) (again_128 c.coef.result fits ∙ c.coef.ensures) in
    named_step c.args.names.now c.args.columns c.args.form.now c.loop-k.coefs.items c.put.new.numbers.items k c.loop-k.k c.loop-k.invariant one room is

pub returns-clause-renames : goal.returns-clause-renames
returns-clause-renames c =
    let made = named_end c.args.names.now c.args.columns c.args.form.now c.loop-k.coefs.items c.in_ok-made.made c.loop-k.k c.loop-k.invariant (omega arith) (ap (λ (g : Affine). g.coefs) c.in_ok-made.ensures ∙ c.as_slice.ensures.value) in
    let fits : FitsSigned w128 c.konst.result = search rules in
    named_renames c.args.names.now c.args.columns c.args.form.now c.in_ok-made.made made (ap (λ (g : Affine). g.konst) c.in_ok-made.ensures ∙ again_128 c.konst.result fits ∙ c.konst.ensures)

pub returns-clause-sizes : goal.returns-clause-sizes
returns-clause-sizes c =
    let made = named_end c.args.names.now c.args.columns c.args.form.now c.loop-k.coefs.items c.in_ok-made.made c.loop-k.k c.loop-k.invariant (omega arith) (ap (λ (g : Affine). g.coefs) c.in_ok-made.ensures ∙ c.as_slice.ensures.value) in
    named_sizes c.args.names.now c.args.columns c.args.form.now c.in_ok-made.made made
