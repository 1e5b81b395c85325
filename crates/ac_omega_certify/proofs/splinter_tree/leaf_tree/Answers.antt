use Rattle.std.proofs.Common.{List, subst}
use Rattle.ac_forms.specs.declared.row.Row.TheVariants.{Eq}
use Rattle.ac_cert.specs.AcceptedTrees.{absurd_refusals}
use Rattle.ac_cert.specs.Rules.{with_row}
use Rattle.ac_cert.specs.declared.types.Step.{Step}
use Rattle.ac_omega_certify.proofs.Leaves.{StepsTo, is-zero}
use Rattle.ac_omega_certify.proofs.splinter_tree.leaf_tree.Goals as goal

pub returns : goal.returns
returns c = λ d f room low high leaf.
    let steps = subst (λ (s : List Step). StepsTo s c.args.leaf c.in_ok-tree.tree) c.in_ok-steps.ensures c.in_ok-tree.ensures.accepted in
    steps absurd_refusals d (with_row d (Eq low.0)) (is-zero d f low.0 high.0 c.args.low c.args.high room low.1 low.2 high.1 high.2) (leaf low.0 low.2)
