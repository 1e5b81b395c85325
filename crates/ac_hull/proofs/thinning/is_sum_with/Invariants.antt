use Rattle.std.proofs.Common.{take}
use Rattle.ac_hull.specs.ColumnDifferences.{IsSum}
use Rattle.ac_hull.proofs.Thinnings.{SomeAmong}
use Rattle.ac_hull.proofs.thinning.is_sum_with.Given as goal

abbrev pub invariant-loop-right : goal.invariant-loop-right
invariant-loop-right l = ¬ (SomeAmong (λ b. IsSum l.left b l.row) (take l.right-index l.others))
