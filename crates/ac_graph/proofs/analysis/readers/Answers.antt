use Rattle.ac_graph.proofs.RecurSteps.{readers_start, readers_step, readers_end}
use Rattle.ac_graph.proofs.analysis.readers.Goals as goal

pub loop-at-init : goal.loop-at-init
loop-at-init c = readers_start c.args.both.now c.args.pairs.now c.new-made.result c.new-made.ensures

pub loop-at-preserved : goal.loop-at-preserved
loop-at-preserved c = readers_step c.args.both.now c.args.pairs.now c.loop-at.at _ c.loop-at.made c.push.new.self c.has_reader.result c.loop-at.invariant c.loop-at-test.true c.has_reader.ensures c.in_ok-push.ensures.ok

pub returns : goal.returns
returns c = readers_end c.args.both.now c.args.pairs.now c.loop-at.at c.loop-at.made c.loop-at.invariant c.loop-at-test.false
