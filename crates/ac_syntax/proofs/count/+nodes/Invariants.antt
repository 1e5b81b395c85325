use Rattle.std.proofs.Common.{◌≡◌, take, sum_by}
use Rattle.ac_syntax.specs.ValueNodes.{size}
use Rattle.ac_syntax.proofs.count.+nodes.Given as goal

abbrev pub invariant-nodes_in-loop-v : goal.invariant-nodes_in-loop-v
invariant-nodes_in-loop-v l = l.sum ≡ sum_by size (take l.v-index l.vs)
