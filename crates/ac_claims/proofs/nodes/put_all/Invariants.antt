use Rattle.std.proofs.Common.{◌≡◌, ◌++◌, length}
use Rattle.std.specs.List.{flat_map}
use Rattle.ac_claims.specs.PlanNodes.{nodes_of, nodes_on}
use Rattle.ac_claims.proofs.NodeSteps.{led}
use Rattle.ac_claims.proofs.nodes.put_all.Given as goal

abbrev pub invariant-loop-plan : goal.invariant-loop-plan
invariant-loop-plan l = flat_map nodes_of l.plans ++ nodes_on (led l.fn.left.items) ≡ flat_map nodes_of l.rest ++ nodes_on (led l.left.items)

abbrev pub decreases-loop-plan : goal.decreases-loop-plan
decreases-loop-plan l = length l.rest
