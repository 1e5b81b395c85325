use Rattle.std.proofs.Common.{◌≡◌, ◌++◌, take}
use Rattle.std.specs.List.{flat_map}
use Rattle.ac_hull.specs.ProgramConstants.{numbers_of_quotient}
use Rattle.ac_hull.proofs.collected.with_quotients.Given as goal

abbrev pub invariant-loop-quot : goal.invariant-loop-quot
invariant-loop-quot l = l.made ≡ l.fn.made ++ flat_map numbers_of_quotient (take l.quot-index l.quots)
