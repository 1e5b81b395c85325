use Rattle.std.proofs.Common.{take}
use Rattle.ac_unfold.specs.UnfoldTasks.{AreBeside}
use Rattle.ac_unfold.proofs.kills.beside.Given as goal

abbrev pub invariant-loop-part : goal.invariant-loop-part
invariant-loop-part l = AreBeside l.node l.case l.number (take l.part-index l.parts) l.made.items
