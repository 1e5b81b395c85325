use Rattle.std.proofs.Common.{◌≡◌, ◌++◌, length}
use Rattle.ac_claims.specs.PlanNodes.{nodes_of, nodes_on}
use Rattle.ac_claims.proofs.NodeSteps.{led}
use Rattle.ac_claims.proofs.nodes.nodes.Given as goal

abbrev pub invariant-loop-node : goal.invariant-loop-node
invariant-loop-node l = led l.all.items ++ nodes_on (led l.left.items) ≡ nodes_of l.plan

abbrev pub decreases-loop-node : goal.decreases-loop-node
decreases-loop-node l = length (nodes_on (led l.left.items))
