use Rattle.ac_unfold_table.specs.StartTraversal.{IsUnderWay, work_left}
use Rattle.ac_unfold_table.specs.TabledClaims.{AddsTabled}
use Rattle.ac_unfold_table.proofs.unfolding.table_behind.Given as goal

abbrev pub invariant-loop-task : goal.invariant-loop-task
invariant-loop-task l = AddsTabled l.program_flows l.fn.table l.table × IsUnderWay l.program_flows l.table l.start l.met l.tasks.items

abbrev pub decreases-loop-task : goal.decreases-loop-task
decreases-loop-task l = work_left l.met l.tasks.items
