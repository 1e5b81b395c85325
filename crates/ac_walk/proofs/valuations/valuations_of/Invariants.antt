use Rattle.std.proofs.Common.{◌≡◌, take}
use Rattle.std.specs.List.{flat_map}
use Rattle.ac_walk.specs.TriedValuations.{valuations_in}
use Rattle.ac_walk.proofs.valuations.valuations_of.Given as goal

abbrev pub invariant-loop-order : goal.invariant-loop-order
invariant-loop-order l = l.made ≡ flat_map (λ r. valuations_in l.params r.why.entries) (take l.order-index l.order-items)
