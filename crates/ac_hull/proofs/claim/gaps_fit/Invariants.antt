use Rattle.std.proofs.Common.{take}
use Rattle.ac_widen.specs.Combinations.{Each}
use Rattle.ac_hull.specs.ColumnDifferences.{GapsFit}
use Rattle.ac_hull.proofs.claim.gaps_fit.Given as goal

abbrev pub invariant-loop-point : goal.invariant-loop-point
invariant-loop-point l = Each GapsFit (take l.point-index l.points)
