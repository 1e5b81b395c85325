use Rattle.std.proofs.Common.{length}
use Rattle.ac_sets.proofs.trees.+tree_from.Given as goal

abbrev pub decreases-tree_from : goal.decreases-tree_from
decreases-tree_from l = length l.rows.now
