use Rattle.std.proofs.Common.{◌≡◌, ◌+◌, ◌++◌, map, take}
use Rattle.ac_unfold.proofs.node.push_places.Given as goal

abbrev pub invariant-loop-offset : goal.invariant-loop-offset
invariant-loop-offset l = l.list ≡ l.fn.list ++ map (λ k. l.first + k) (take l.offset-index l.offsets)
