use Rattle.std.proofs.Common.{◌≡◌, ◌++◌, length}
use Rattle.ac_unfold_table.specs.StartTraversal.{tasks_of}
use Rattle.ac_unfold_table.proofs.unfolding.put.Given as goal

abbrev pub invariant-loop-question : goal.invariant-loop-question
invariant-loop-question l = l.tasks.items ++ tasks_of l.left.items ≡ l.fn.tasks.items ++ tasks_of l.fn.questions

abbrev pub decreases-loop-question : goal.decreases-loop-question
decreases-loop-question l = length l.left.items
