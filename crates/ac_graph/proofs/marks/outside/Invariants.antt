use Rattle.ac_graph.specs.Ways.{Edge, IsMarked}
use Rattle.ac_graph.proofs.CycleSteps.{EdgesUpTo}
use Rattle.ac_graph.proofs.marks.outside.Given as goal

abbrev pub invariant-loop-node : goal.invariant-loop-node
invariant-loop-node l = EdgesUpTo (λ i j. Edge l.next i j × (¬ (IsMarked l.marks j))) l.made l.node
