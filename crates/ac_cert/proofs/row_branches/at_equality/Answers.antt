use Rattle.std.proofs.Common.{List, subst}
use Rattle.ac_forms.specs.Affine.{Affine}
use Rattle.ac_cert.specs.AcceptedTrees.{Accepts}
use Rattle.ac_cert.specs.declared.types.Step.{Step}
use Rattle.ac_cert.proofs.RowBranching.{Splits, StepsTo, eq-branch}
use Rattle.ac_cert.proofs.row_branches.at_equality.Goals as goal

pub returns : goal.returns
returns g c = λ R d l short out beneath on.
    let steps = subst (λ (s : List Step). StepsTo (λ t b. Accepts t R b) s c.args.inside c.in_ok-equal.equal) c.in_ok-steps.ensures (c.in_ok-equal.ensures.accepted R) in
    let inner = subst (λ (f : Affine). Splits (λ t b. Accepts t R b) f c.in_ok-equal.equal c.args.above c.in_ok-low.low) c.in_ok-turned.ensures (c.in_ok-low.ensures.accepted R) in
    let outer = subst (λ (f : Affine). Splits (λ t b. Accepts t R b) f c.in_ok-low.low c.args.below c.in_ok-made.made) c.in_ok-form.ensures (c.in_ok-made.ensures.accepted R) in
    eq-branch (λ t b. Accepts t R b) c.args.form.now c.args.count c.args.inside c.in_ok-equal.equal c.in_ok-low.low c.args.above c.args.below c.in_ok-made.made d l short c.see_form.ensures c.requires steps inner outer out beneath on
