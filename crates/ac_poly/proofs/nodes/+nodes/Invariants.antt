use Rattle.ac_poly.proofs.NodeSteps.{NodesMade}
use Rattle.ac_poly.proofs.nodes.+nodes.Given as goal

abbrev pub invariant-add_all_nodes-loop-value : goal.invariant-add_all_nodes-loop-value
invariant-add_all_nodes-loop-value l = NodesMade l.own l.values l.fn.out l.value-index l.out
