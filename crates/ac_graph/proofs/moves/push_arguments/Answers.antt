use Rattle.std.proofs.Common.{◌∙◌, sym}
use Rattle.ac_syntax.specs.Outputs.{swaps_of}
use Rattle.ac_graph.specs.ProgramOutlines.{called}
use Rattle.ac_graph.proofs.MoveSteps.{met_kept, met_swapped}
use Rattle.ac_graph.proofs.moves.push_arguments.Goals as goal

pub returns-else-may_swap : goal.returns-else-may_swap
returns-else-may_swap c = met_kept (swaps_of c.args.both.now.commutative.now) (called c.args.left.now) (called c.args.right.now) c.args.out.now c.push_kept.new.out c.in_ok-push_kept.ensures (sym c.may_swap.ensures ∙ c.if-may_swap.false)

pub returns-in_ok-push_argument-2 : goal.returns-in_ok-push_argument-2
returns-in_ok-push_argument-2 c =
    met_swapped (swaps_of c.args.both.now.commutative.now) (called c.args.left.now) (called c.args.right.now) c.args.out.now c.push_kept.new.out c.push_argument.new.out c.push_argument-then-may_swap.new.out
    c.in_ok-push_kept.ensures c.in_ok-push_argument.ensures c.in_ok-push_argument-2.ensures (sym c.may_swap.ensures ∙ c.if-may_swap.true)
