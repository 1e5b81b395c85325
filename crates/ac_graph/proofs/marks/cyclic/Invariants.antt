use Rattle.ac_graph.proofs.CycleSteps.{CyclesUpTo}
use Rattle.ac_graph.proofs.marks.cyclic.Given as goal

abbrev pub invariant-loop-node : goal.invariant-loop-node
invariant-loop-node l = CyclesUpTo l.next l.made l.node
