use Rattle.std.proofs.Common.{take}
use Rattle.ac_walk.specs.TriedValuations.{NumberShowsNone}
use Rattle.ac_walk.proofs.Trying.{HaveTried}
use Rattle.ac_walk.proofs.differing.first_difference.Given as goal

abbrev pub invariant-loop-at : goal.invariant-loop-at
invariant-loop-at l = HaveTried (NumberShowsNone l.pair l.number) l.tried (take l.at-index l.valuations)
