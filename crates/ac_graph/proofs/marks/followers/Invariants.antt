use Rattle.ac_graph.proofs.CycleSteps.{RanksUpTo}
use Rattle.ac_graph.proofs.marks.followers.Given as goal

abbrev pub invariant-loop-node : goal.invariant-loop-node
invariant-loop-node l = RanksUpTo l.next l.made l.node
