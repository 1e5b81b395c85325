use Rattle.std.proofs.Common.{◌∙◌, ap, List, Bool, arith}
use Rattle.std.specs.Prelude.{count_by}
use Rattle.ac_graph.proofs.CycleSteps.{ranks_start, ranks_step, ranks_end}
use Rattle.ac_graph.proofs.marks.followers.Goals as goal

pub loop-node-init : goal.loop-node-init
loop-node-init c = ranks_start c.args.next.now c.new-made.result c.new-made.ensures

pub loop-node-preserved : goal.loop-node-preserved
loop-node-preserved c =
    ranks_step c.args.next.now c.loop-node.made c.push.new.self c.loop-node.node c.in_ok-marks.marks.items c.count.result c.loop-node.invariant c.in_ok-marks.ensures
    (c.count.ensures ∙ ap (λ (ms : List Bool). count_by (λ mark. mark) ms) c.as_slice.ensures.value) c.in_ok-push.ensures.ok

pub returns : goal.returns
returns c = ranks_end c.args.next.now c.loop-node.made c.loop-node.node c.loop-node.invariant (omega arith)
