use Rattle.std.proofs.Common.{List, subst}
use Rattle.ac_forms.specs.Affine.{Affine}
use Rattle.ac_cert.specs.AcceptedTrees.{Accepts}
use Rattle.ac_cert.specs.declared.types.Step.{Step}
use Rattle.ac_cert.proofs.RowBranching.{Splits, StepsTo, div-branch}
use Rattle.ac_cert.proofs.row_branches.at_divisibility.Goals as goal

pub returns : goal.returns
returns g c = λ R d e l out on.
    let m = c.args.modulus.now in
    let steps = subst (λ (s : List Step). StepsTo (λ t b. Accepts t R b) s c.args.inside c.in_ok-divided.divided) c.in_ok-steps.ensures (c.in_ok-divided.ensures.accepted R) in
    let split = subst (λ (f : Affine). Splits (λ t b. Accepts t R b) f c.in_ok-divided.divided c.args.outside c.in_ok-both.both) c.in_ok-high.ensures.value (c.in_ok-both.ensures.accepted R) in
    let floor = subst (λ (s : List Step). StepsTo (λ t b. Accepts t R b) s c.in_ok-both.both c.in_ok-made.made) c.in_ok-floor.ensures (c.in_ok-made.ensures.accepted R) in
    div-branch (λ t b. Accepts t R b) m c.args.form.now c.args.columns c.args.count c.args.inside c.in_ok-divided.divided c.in_ok-both.both c.args.outside c.in_ok-made.made d e l c.requires.within c.requires.modulus c.quotient_form.ensures.modulus c.see_form.ensures c.requires.fits steps split floor out on
