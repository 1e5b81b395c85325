use Rattle.std.proofs.Common.{◌≡◌, ◌++◌}
use Rattle.ac_walk_state.proofs.growing.with_trees.Given as goal

abbrev pub invariant-loop-tree : goal.invariant-loop-tree
invariant-loop-tree l = l.all.items ≡ l.fn.trees.items ++ l.yielded
