use Rattle.std.proofs.Common.{◌≡◌, ◌++◌, take}
use Rattle.std.specs.List.{flat_map}
use Rattle.ac_hull.specs.ProgramConstants.{numbers_of_value}
use Rattle.ac_hull.proofs.collected.+values.Given as goal

abbrev pub invariant-with_values-loop-value : goal.invariant-with_values-loop-value
invariant-with_values-loop-value l = l.made ≡ l.fn.made ++ flat_map numbers_of_value (take l.value-index l.values)
