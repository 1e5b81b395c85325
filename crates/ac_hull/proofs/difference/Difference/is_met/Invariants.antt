use Rattle.std.proofs.Common.{◌+ℤ◌, take}
use Rattle.ac_widen.specs.Combinations.{Each}
use Rattle.ac_hull.specs.ColumnDifferences.{HoldsWith, gap_of}
use Rattle.ac_hull.proofs.difference.Difference.is_met.Given as goal

abbrev pub invariant-loop-point : goal.invariant-loop-point
invariant-loop-point l = Each (λ p. HoldsWith l.self.modulus (gap_of l.self p +ℤ l.self.constant)) (take l.point-index l.points)
