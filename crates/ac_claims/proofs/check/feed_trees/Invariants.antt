use Rattle.std.proofs.Common.{drop}
use Rattle.std.specs.List.{flat_map}
use Rattle.ac_claims.specs.CheckFeed.{Reaches, of_tree}
use Rattle.ac_claims.proofs.check.feed_trees.Given as goal

abbrev pub invariant-loop-tree : goal.invariant-loop-tree
invariant-loop-tree l = Reaches l.fn.stepper (flat_map of_tree l.trees) l.stepper (flat_map of_tree (drop l.tree-index l.trees))
