use Rattle.std.proofs.Common.{◌↔◌}
use Rattle.ac_syntax.specs.declared.tree.Position.{Position}
use Rattle.ac_forms.specs.ListMembers.{IsAmong}
use Rattle.ac_graph.specs.Recurrence.{HasMark}
use Rattle.ac_graph.proofs.analysis.chosen.Given as goal

abbrev pub invariant-loop-at : goal.invariant-loop-at
invariant-loop-at l = (p : Position × Position) → IsAmong p l.made ↔ HasMark l.pairs l.marks l.at p
