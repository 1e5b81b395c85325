use Rattle.std.proofs.Common.{◌≡◌, ◌++◌, take}
use Rattle.ac_walk.specs.TriedValuations.{valuations_in}
use Rattle.ac_walk.proofs.valuations.push_valuations.Given as goal

abbrev pub invariant-loop-entry : goal.invariant-loop-entry
invariant-loop-entry l = l.valuations ≡ l.initial.valuations ++ valuations_in l.params (take l.entry-index l.entries)
