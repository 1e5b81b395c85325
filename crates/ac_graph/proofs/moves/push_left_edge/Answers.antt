use Rattle.std.proofs.Common.{◌∙◌, sym}
use Rattle.ac_graph.proofs.MoveSteps.{left_edge}
use Rattle.ac_graph.proofs.moves.push_left_edge.Goals as goal

pub returns-in_ok-push : goal.returns-in_ok-push
returns-in_ok-push c = left_edge c.args.edge.now c.args.pair.now c.args.out.now c.push.new.self (sym c.same_position.ensures.exact ∙ c.if-same_position.true) c.in_ok-push.ensures.ok
