use Rattle.std.proofs.Common.{rules}
use Rattle.ac_graph.proofs.MoveSteps.{right_step, right_end}
use Rattle.ac_graph.proofs.moves.push_right.Goals as goal

pub loop-at-preserved : goal.loop-at-preserved
loop-at-preserved c = right_step c.args.edges.now c.args.pair.now c.loop-at.at _ c.args.out.now c.loop-at.out c.push_right_edge.new.out c.loop-at.invariant c.loop-at-test.true c.in_ok-push_right_edge.ensures

pub returns : goal.returns
returns c = right_end c.args.edges.now c.args.pair.now c.loop-at.at c.args.out.now c.loop-at.out c.loop-at.invariant (search rules)
