use Rattle.std.proofs.Common.{◌∙◌, ap, List, Bool, arith}
use Rattle.ac_graph.specs.NodeMarks.{is_marked}
use Rattle.ac_graph.proofs.CycleSteps.{cycles_start, cycles_step, cycles_end}
use Rattle.ac_graph.proofs.marks.cyclic.Goals as goal

pub loop-node-init : goal.loop-node-init
loop-node-init c = cycles_start c.args.next.now c.new-made.result c.new-made.ensures

pub loop-node-preserved : goal.loop-node-preserved
loop-node-preserved c =
    cycles_step c.args.next.now c.loop-node.made c.push.new.self c.loop-node.node c.in_ok-marks.marks.items c.is_marked.result c.loop-node.invariant c.in_ok-marks.ensures
    (c.is_marked.ensures ∙ ap (λ (ms : List Bool). is_marked ms c.loop-node.node) c.as_slice.ensures.value) c.in_ok-push.ensures.ok

pub returns : goal.returns
returns c = cycles_end c.args.next.now c.loop-node.made c.loop-node.node c.loop-node.invariant (omega arith)
