use Rattle.std.proofs.Common.{arith}
use Rattle.ac_graph.proofs.RecurSteps.{marked_start, marked_step, marked_end}
use Rattle.ac_graph.proofs.analysis.marked_pairs.Goals as goal

pub loop-at-init : goal.loop-at-init
loop-at-init c = marked_start c.args.pairs.now c.args.on_cycles.now c.args.readers.now c.args.on_reading.now c.new-made.result c.new-made.ensures

pub loop-at-preserved : goal.loop-at-preserved
loop-at-preserved c =
    marked_step c.args.pairs.now c.args.on_cycles.now c.args.readers.now c.args.on_reading.now c.loop-at.made c.push.new.self c.loop-at.at _ c.recurs-mark.result c.is_marked.result c.is_marked-in-loop-at.result c.is_marked-in-loop-at-2.result
    c.loop-at.invariant c.loop-at-test.true c.is_marked.ensures c.is_marked-in-loop-at.ensures c.is_marked-in-loop-at-2.ensures c.recurs-mark.ensures c.in_ok-push.ensures.ok

pub returns : goal.returns
returns c = marked_end c.args.pairs.now c.args.on_cycles.now c.args.readers.now c.args.on_reading.now c.loop-at.made c.loop-at.at c.loop-at.invariant (omega arith)
