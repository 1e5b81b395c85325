use Rattle.std.proofs.Common.{refl}
use Rattle.ac_hull.specs.ColumnDifferences.{IsSum}
use Rattle.ac_hull.proofs.Comparing.{no_true}
use Rattle.ac_hull.proofs.Thinnings.{none_more, found_at}
use Rattle.ac_hull.proofs.thinning.is_sum_with.Goals as goal

pub returns-then-is_sum : goal.returns-then-is_sum
returns-then-is_sum c =
    ((λ t. found_at (λ b. IsSum c.args.left.now b c.args.row.now) c.args.others.now c.loop-right.right-index _ c.loop-right-test.true (c.is_sum.ensures.0 c.if-is_sum.true)), (λ k. refl))

pub loop-right-preserved : goal.loop-right-preserved
loop-right-preserved c =
    none_more (λ b. IsSum c.args.left.now b c.args.row.now) c.args.others.now c.loop-right.right-index _ c.loop-right.invariant c.loop-right-test.true (λ s. no_true c.is_sum.result (c.is_sum.ensures.1 s) c.if-is_sum.false)
