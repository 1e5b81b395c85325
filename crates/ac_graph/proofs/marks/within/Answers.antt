use Rattle.std.proofs.Common.{arith}
use Rattle.ac_graph.specs.Ways.{Edge, IsMarked}
use Rattle.ac_graph.proofs.CycleSteps.{edges_start, edges_step, within_at, within_end}
use Rattle.ac_graph.proofs.marks.within.Goals as goal

pub loop-node-init : goal.loop-node-init
loop-node-init c = edges_start (λ i j. Edge c.args.next.now i j × IsMarked c.args.marks.now i × IsMarked c.args.marks.now j) c.new-made.result c.new-made.ensures

pub loop-node-preserved : goal.loop-node-preserved
loop-node-preserved c =
    edges_step (λ i j. Edge c.args.next.now i j × IsMarked c.args.marks.now i × IsMarked c.args.marks.now j) c.loop-node.made c.push.new.self c.loop-node.node c.in_ok-nodes.nodes c.loop-node.invariant
    (within_at c.args.next.now c.args.marks.now c.loop-node.node c.following.result.now c.in_ok-nodes.nodes c.following.ensures c.in_ok-nodes.ensures) c.in_ok-push.ensures.ok

pub returns : goal.returns
returns c = within_end c.args.next.now c.args.marks.now c.loop-node.made c.loop-node.node c.loop-node.invariant (omega arith)
