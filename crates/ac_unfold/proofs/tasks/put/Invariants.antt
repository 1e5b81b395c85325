use Rattle.std.proofs.Common.{length}
use Rattle.ac_unfold.proofs.TaskRuns.{Putting}
use Rattle.ac_unfold.proofs.tasks.put.Given as goal

abbrev pub invariant-loop-task : goal.invariant-loop-task
invariant-loop-task l = Putting l.fn.more.items l.left.items l.fn.tasks.items l.tasks.items

abbrev pub decreases-loop-task : goal.decreases-loop-task
decreases-loop-task l = length l.left.items
