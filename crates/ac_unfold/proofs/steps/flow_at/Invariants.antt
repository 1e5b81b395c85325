use Rattle.std.proofs.Common.{◌≡◌, drop}
use Rattle.ac_unfold.specs.PositionFlow.{flow_at}
use Rattle.ac_unfold.proofs.steps.flow_at.Given as goal

abbrev pub invariant-loop-flow : goal.invariant-loop-flow
invariant-loop-flow l = flow_at (drop l.flow-index l.flows) l.position ≡ flow_at l.flows l.position
