use Rattle.std.proofs.Common.{ap, get_or}
use Rattle.std.specs.Prelude.{not}
use Rattle.ac_graph.specs.Ways.{IsMarked}
use Rattle.ac_graph.proofs.CycleSteps.{chosen_start, chosen_step, chosen_end, unmarked_is}
use Rattle.ac_graph.proofs.marks.unmarked_among.Goals as goal

pub loop-node-init : goal.loop-node-init
loop-node-init c = chosen_start (λ j. ¬ (IsMarked c.args.marks.now j)) c.args.nodes.now c.new-made.result c.new-made.ensures

pub loop-node-preserved : goal.loop-node-preserved
loop-node-preserved c =
    chosen_step (λ j. ¬ (IsMarked c.args.marks.now j)) c.args.nodes.now c.loop-node.node-index c.loop-node.made c.push_if.new.out (not c.is_marked.result) c.loop-node.invariant c.loop-node-test.true
    (unmarked_is c.args.marks.now (get_or c.args.nodes.now c.loop-node.node-index 0) (not c.is_marked.result) (ap not c.is_marked.ensures)) c.in_ok-push_if.ensures

pub returns : goal.returns
returns c = chosen_end (λ j. ¬ (IsMarked c.args.marks.now j)) c.args.nodes.now c.loop-node.node-index c.loop-node.made c.loop-node.invariant c.loop-node-test.false
