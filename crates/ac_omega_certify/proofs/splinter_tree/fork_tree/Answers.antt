use Rattle.std.proofs.Common.{subst}
use Rattle.ac_forms.specs.Affine.{Affine}
use Rattle.ac_forms.specs.declared.row.Row.TheVariants.{Ge}
use Rattle.ac_cert.specs.AcceptedTrees.{absurd_refusals}
use Rattle.ac_cert.specs.Rules.{with_row}
use Rattle.ac_omega_certify.specs.Leaves.{less, under}
use Rattle.ac_omega_certify.proofs.Leaves.{Splits, both-halves}
use Rattle.ac_omega_certify.proofs.splinter_tree.fork_tree.Goals as goal

pub returns : goal.returns
returns c = λ d short upper lower.
    let f = c.args.form.now in
    let n = c.args.half in
    let split = subst (λ (g : Affine). Splits g c.args.upper c.args.lower c.in_ok-tree.tree) c.in_ok-middle.ensures c.in_ok-tree.ensures.accepted in
    split absurd_refusals d (with_row d (Ge (less f n))) (with_row d (Ge (under f n))) (both-halves d f n c.requires.some short c.requires.room) upper lower
