use Rattle.ac_graph.proofs.PlaceSteps.{new_known, new_pushed}
use Rattle.ac_graph.proofs.edges.push_new.Goals as goal

pub returns-in-Some : goal.returns-in-Some
returns-in-Some c = new_known c.args.pairs.now c.as_slice.result.now c.args.pair c.in-Some.field-0 c.as_slice.ensures c.in-Some.ensures

pub returns-in_ok-push-in-None : goal.returns-in_ok-push-in-None
returns-in_ok-push-in-None c = new_pushed c.args.pairs.now c.push.new.self c.args.pair c.in_ok-push-in-None.ensures.ok
