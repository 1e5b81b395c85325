use Rattle.ac_graph.proofs.SiteSteps.{starts_start, starts_step, starts_end}
use Rattle.ac_graph.proofs.making.starts_of.Goals as goal

pub loop-output-init : goal.loop-output-init
loop-output-init c = starts_start c.args.outputs.now c.new-made.result c.new-made.ensures

pub loop-output-preserved : goal.loop-output-preserved
loop-output-preserved c = starts_step c.args.outputs.now c.loop-output.output-index c.loop-output.made c.placed.new.pairs c.loop-output.invariant c.loop-output-test.true c.in_ok-placed.ensures.extends

pub returns-clause-distinct : goal.returns-clause-distinct
returns-clause-distinct c = c.loop-output.invariant.distinct

pub returns-clause-starts : goal.returns-clause-starts
returns-clause-starts c = (starts_end c.args.outputs.now c.loop-output.output-index c.loop-output.made c.loop-output.invariant c.loop-output-test.false).are
