use Rattle.std.proofs.Common.{take, ◌↔◌, ℕ}
use Rattle.ac_forms.specs.ListMembers.{IsAmong}
use Rattle.ac_graph.specs.Ways.{IsMarked}
use Rattle.ac_graph.proofs.marks.marked_among.Given as goal

abbrev pub invariant-loop-node : goal.invariant-loop-node
invariant-loop-node l = (j : ℕ) → IsAmong j l.made ↔ (IsAmong j (take l.node-index l.nodes) × IsMarked l.marks j)
