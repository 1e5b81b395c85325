use Rattle.std.proofs.Common.{◌≡◌, ◌∙◌, sym, subst, ℕ, length, arith}
use Rattle.std.proofs.lemmas.List.{length-map}
use Rattle.ac_syntax.specs.declared.tree.Position.TheVariants.{Node}
use Rattle.ac_graph.specs.ProgramOutlines.{called}
use Rattle.ac_graph.specs.Reachability.{IsMore, IsKeptOf}
use Rattle.ac_graph.proofs.MoveSteps.{kept_step}
use Rattle.ac_graph.proofs.moves.push_kept.Goals as goal

pub loop-k-preserved : goal.loop-k-preserved
loop-k-preserved c = kept_step (called c.args.left.now) (called c.args.right.now) c.loop-k.k c.args.out.now c.loop-k.out c.push_argument.new.out c.loop-k.invariant c.in_ok-push_argument.ensures

pub returns : goal.returns
returns c =
    let e : c.loop-k.k ≡ length c.args.left.now.args.now = omega arith in
    subst (λ (n : ℕ). IsMore (IsKeptOf (called c.args.left.now) (called c.args.right.now) n) c.args.out.now c.loop-k.out) (e ∙ sym (length-map c.args.left.now.args.now (Node c.args.left.now.stmt))) c.loop-k.invariant
