use Rattle.std.proofs.Common.{refl}
use Rattle.ac_hull.specs.ColumnDifferences.{IsWeaker}
use Rattle.ac_hull.proofs.Comparing.{no_true}
use Rattle.ac_hull.proofs.Thinnings.{none_more, found_at}
use Rattle.ac_hull.proofs.thinning.is_weaker_than_one.Goals as goal

pub returns-then-is_weaker : goal.returns-then-is_weaker
returns-then-is_weaker c =
    ((λ t. found_at (λ e. IsWeaker c.args.points.now e c.args.row.now) c.args.others.now c.loop-other.other-index _ c.loop-other-test.true (c.is_weaker.ensures.0 c.if-is_weaker.true)), (λ k. refl))

pub loop-other-preserved : goal.loop-other-preserved
loop-other-preserved c =
    none_more (λ e. IsWeaker c.args.points.now e c.args.row.now) c.args.others.now c.loop-other.other-index _ c.loop-other.invariant c.loop-other-test.true (λ s. no_true c.is_weaker.result (c.is_weaker.ensures.1 s) c.if-is_weaker.false)
