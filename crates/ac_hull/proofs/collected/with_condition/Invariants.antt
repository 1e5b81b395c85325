use Rattle.std.proofs.Common.{◌≡◌, ◌++◌, take}
use Rattle.std.specs.List.{flat_map}
use Rattle.ac_hull.specs.ProgramConstants.{numbers_of_comparison}
use Rattle.ac_hull.proofs.collected.with_condition.Given as goal

abbrev pub invariant-loop-part : goal.invariant-loop-part
invariant-loop-part l = l.made ≡ l.fn.made ++ flat_map numbers_of_comparison (take l.part-index l.part-items)
