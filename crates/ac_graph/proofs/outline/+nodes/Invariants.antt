use Rattle.ac_graph.proofs.OutlineSteps.{OutlinesMade}
use Rattle.ac_graph.proofs.outline.+nodes.Given as goal

abbrev pub invariant-add_all_nodes-loop-value : goal.invariant-add_all_nodes-loop-value
invariant-add_all_nodes-loop-value l = OutlinesMade l.values l.fn.out l.value-index l.out
