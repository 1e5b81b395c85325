use Rattle.std.proofs.Common.{◌<◌, take}
use Rattle.ac_widen.specs.Combinations.{Each}
use Rattle.ac_hull.specs.SmallestIntegers.{rank}
use Rattle.ac_hull.proofs.first.place.Given as goal

abbrev pub invariant-loop-at : goal.invariant-loop-at
invariant-loop-at l = Each (λ x. rank x < rank l.number) (take l.at l.numbers)
