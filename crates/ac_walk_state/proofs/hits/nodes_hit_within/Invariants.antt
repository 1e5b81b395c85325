use Rattle.std.proofs.Common.{take}
use Rattle.ac_walk_state.specs.Hits.{NodesHitWithin}
use Rattle.ac_walk_state.proofs.hits.nodes_hit_within.Given as goal

abbrev pub invariant-loop-node : goal.invariant-loop-node
invariant-loop-node l = NodesHitWithin l.limit (take l.node-index l.nodes)
