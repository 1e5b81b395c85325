use Rattle.std.proofs.Common.{rules}
use Rattle.ac_graph.proofs.MoveSteps.{left_step, left_end}
use Rattle.ac_graph.proofs.moves.push_left.Goals as goal

pub loop-at-preserved : goal.loop-at-preserved
loop-at-preserved c = left_step c.args.edges.now c.args.pair.now c.loop-at.at _ c.args.out.now c.loop-at.out c.push_left_edge.new.out c.loop-at.invariant c.loop-at-test.true c.in_ok-push_left_edge.ensures

pub returns : goal.returns
returns c = left_end c.args.edges.now c.args.pair.now c.loop-at.at c.args.out.now c.loop-at.out c.loop-at.invariant (search rules)
