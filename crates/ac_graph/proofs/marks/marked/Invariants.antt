use Rattle.ac_graph.proofs.FoundNodes.{IsSpreading}
use Rattle.ac_graph.proofs.marks.marked.Given as goal

abbrev pub invariant-loop-at : goal.invariant-loop-at
invariant-loop-at l = IsSpreading l.next l.from l.at l.marks.items l.found
