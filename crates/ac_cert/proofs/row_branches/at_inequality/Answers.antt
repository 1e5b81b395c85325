use Rattle.std.proofs.Common.{subst}
use Rattle.ac_forms.specs.Affine.{Affine}
use Rattle.ac_cert.specs.AcceptedTrees.{Accepts}
use Rattle.ac_cert.proofs.RowBranching.{Splits, ge-branch}
use Rattle.ac_cert.proofs.row_branches.at_inequality.Goals as goal

pub returns : goal.returns
returns g c = λ R d short out on.
    let split = subst (λ (f : Affine). Splits (λ t b. Accepts t R b) f c.args.inside c.args.below c.in_ok-made.made) c.in_ok-form.ensures (c.in_ok-made.ensures.accepted R) in
    ge-branch (λ t b. Accepts t R b) c.args.form.now c.args.inside c.args.below c.in_ok-made.made d short c.requires split out on
