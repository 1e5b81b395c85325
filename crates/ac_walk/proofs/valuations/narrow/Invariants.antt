use Rattle.std.proofs.Common.{◌≡◌, take, true}
use Rattle.ac_walk.specs.TriedValuations.{in_64_bits}
use Rattle.ac_walk.proofs.valuations.narrow.Given as goal

abbrev pub invariant-loop-value : goal.invariant-loop-value
invariant-loop-value l = (l.values ≡ take l.value-index l.point) × (in_64_bits (take l.value-index l.point) ≡ true)
