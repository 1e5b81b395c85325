use Rattle.std.proofs.Common.{take}
use Rattle.ac_hull.specs.ColumnDifferences.{IsWeaker}
use Rattle.ac_hull.proofs.Thinnings.{SomeAmong}
use Rattle.ac_hull.proofs.thinning.is_weaker_than_one.Given as goal

abbrev pub invariant-loop-other : goal.invariant-loop-other
invariant-loop-other l = ¬ (SomeAmong (λ e. IsWeaker l.points e l.row) (take l.other-index l.others))
