use Rattle.std.proofs.Common.{◌≡◌, ◌++◌, take}
use Rattle.std.specs.List.{flat_map}
use Rattle.ac_hull.specs.ProgramConstants.{numbers_of_forms}
use Rattle.ac_hull.proofs.collected.with_program.Given as goal

abbrev pub invariant-loop-array : goal.invariant-loop-array
invariant-loop-array l = l.made ≡ l.fn.made ++ flat_map (λ array. numbers_of_forms array.extents) (take l.array-index l.array-items)
