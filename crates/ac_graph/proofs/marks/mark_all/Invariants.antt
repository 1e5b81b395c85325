use Rattle.std.proofs.Common.{take}
use Rattle.ac_graph.specs.NodeMarks.{AreAdded}
use Rattle.ac_graph.proofs.marks.mark_all.Given as goal

abbrev pub invariant-loop-node : goal.invariant-loop-node
invariant-loop-node l = AreAdded (take l.node-index l.nodes) l.fn.found l.found l.marks
