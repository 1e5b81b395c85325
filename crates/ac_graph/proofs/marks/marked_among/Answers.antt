use Rattle.std.proofs.Common.{◌∙◌, sym, get_or}
use Rattle.ac_graph.specs.Ways.{IsMarked}
use Rattle.ac_graph.proofs.CycleSteps.{chosen_start, chosen_step, chosen_end, marked_is}
use Rattle.ac_graph.proofs.marks.marked_among.Goals as goal

pub loop-node-init : goal.loop-node-init
loop-node-init c = chosen_start (IsMarked c.args.marks.now) c.args.nodes.now c.new-made.result c.new-made.ensures

pub loop-node-preserved : goal.loop-node-preserved
loop-node-preserved c =
    let t = marked_is c.args.marks.now (get_or c.args.nodes.now c.loop-node.node-index 0) in
    chosen_step (IsMarked c.args.marks.now) c.args.nodes.now c.loop-node.node-index c.loop-node.made c.push_if.new.out c.is_marked.result c.loop-node.invariant c.loop-node-test.true
    ((λ e. t.0 (sym c.is_marked.ensures ∙ e)), (λ m. c.is_marked.ensures ∙ t.1 m)) c.in_ok-push_if.ensures

pub returns : goal.returns
returns c = chosen_end (IsMarked c.args.marks.now) c.args.nodes.now c.loop-node.node-index c.loop-node.made c.loop-node.invariant c.loop-node-test.false
