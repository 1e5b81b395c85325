use Rattle.std.proofs.Common.{take}
use Rattle.ac_walk_state.specs.Hits.{TreesHitWithin}
use Rattle.ac_walk_state.proofs.hits.trees_hit_within.Given as goal

abbrev pub invariant-loop-tree : goal.invariant-loop-tree
invariant-loop-tree l = TreesHitWithin l.limit (take l.tree-index l.trees)
