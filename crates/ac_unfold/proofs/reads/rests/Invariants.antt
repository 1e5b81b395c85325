use Rattle.std.proofs.Common.{take}
use Rattle.ac_unfold.specs.UnfoldTasks.{AreRests}
use Rattle.ac_unfold.proofs.reads.rests.Given as goal

abbrev pub invariant-loop-rest : goal.invariant-loop-rest
invariant-loop-rest l = AreRests l.search l.node (take l.rest-index l.case.pieces) l.made.items
