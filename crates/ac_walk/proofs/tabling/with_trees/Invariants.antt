use Rattle.std.proofs.Common.{◌≡◌, ◌++◌}
use Rattle.ac_unfold_table.specs.Tables.{all_trees}
use Rattle.ac_walk.proofs.tabling.with_trees.Given as goal

abbrev pub invariant-loop-trees : goal.invariant-loop-trees
invariant-loop-trees l = l.all.items ≡ l.fn.plans.items ++ all_trees l.yielded
