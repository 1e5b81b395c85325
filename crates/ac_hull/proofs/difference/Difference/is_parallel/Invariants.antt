use Rattle.std.proofs.Common.{◌≡◌, ◌-ℤ◌, take}
use Rattle.ac_widen.specs.Combinations.{Each}
use Rattle.ac_hull.specs.ColumnDifferences.{gap_of}
use Rattle.ac_hull.proofs.difference.Difference.is_parallel.Given as goal

abbrev pub invariant-loop-point : goal.invariant-loop-point
invariant-loop-point l = Each (λ p. gap_of l.self p -ℤ gap_of l.self l.base ≡ gap_of l.other p -ℤ gap_of l.other l.base) (take l.point-index l.points)
