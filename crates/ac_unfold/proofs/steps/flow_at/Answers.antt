use Rattle.ac_unfold.proofs.Results.{in_read}
use Rattle.ac_unfold.proofs.steps.flow_at.Goals as goal

pub returns-then-same_position-clause-among : goal.returns-then-same_position-clause-among
returns-then-same_position-clause-among c = in_read c.args.flows.now c.loop-flow.flow-index c.flow-item.result c.loop-flow-test.true c.flow-item.is

pub returns-then-same_position-clause-position : goal.returns-then-same_position-clause-position
returns-then-same_position-clause-position c = c.same_position.ensures.equal c.if-same_position.true
