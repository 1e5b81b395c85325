use Rattle.std.proofs.Common.{◌≡◌, ◌++◌, map, replicate, take}
use Rattle.ac_walk.proofs.valuations.push_uniform.Given as goal

abbrev pub invariant-loop-size : goal.invariant-loop-size
invariant-loop-size l = l.valuations ≡ l.initial.valuations ++ map (λ size. replicate l.params size) (take l.size-index l.sizes)
