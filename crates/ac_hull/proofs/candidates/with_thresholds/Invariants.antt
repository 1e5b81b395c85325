use Rattle.std.proofs.Common.{◌≡◌, ◌++◌, take}
use Rattle.std.specs.List.{flat_map}
use Rattle.ac_hull.specs.Thresholds.{thresholds_at}
use Rattle.ac_hull.proofs.candidates.with_thresholds.Given as goal

abbrev pub invariant-loop-number : goal.invariant-loop-number
invariant-loop-number l = l.made ≡ l.fn.made ++ flat_map thresholds_at (take l.number-index l.numbers)
