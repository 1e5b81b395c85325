use Rattle.std.proofs.Common.{refl}
use Rattle.ac_forms.specs.ListMembers.{IsAmong}
use Rattle.ac_hull.specs.ColumnDifferences.{IsSum}
use Rattle.ac_hull.specs.declared.difference.Difference.{Difference}
use Rattle.ac_hull.proofs.Comparing.{no_true}
use Rattle.ac_hull.proofs.Thinnings.{none_more, found_at}
use Rattle.ac_hull.proofs.thinning.is_sum_of_two.Goals as goal
use Rattle.ac_hull.proofs.thinning.is_sum_of_two.Goals.{else-left-row-via-then-left-row+else-is_sum_with, else-left-row-via-else-left-row}

pub returns-then-is_sum_with : goal.returns-then-is_sum_with
returns-then-is_sum_with c =
    let s = found_at (λ a. (b : Difference) × IsAmong b c.args.others.now × IsSum a b c.args.row.now) c.args.others.now c.loop-left.left-index _ c.loop-left-test.true (c.is_sum_with.ensures.0 c.if-is_sum_with.true) in
    ((λ t. (s.0, s.2.0, s.1, s.2.1, s.2.2)), (λ k. refl))

pub loop-left-preserved : goal.loop-left-preserved
loop-left-preserved c =
    elim c.else-left-row.branch [
      | else-left-row-via-then-left-row+else-is_sum_with w ↦
          none_more (λ a. (b : Difference) × IsAmong b c.args.others.now × IsSum a b c.args.row.now) c.args.others.now c.loop-left.left-index _ c.loop-left.invariant c.loop-left-test.true (λ s. no_true w.is_sum_with.result (w.is_sum_with.ensures.1 s) w.if-is_sum_with.false)
      | else-left-row-via-else-left-row w ↦
          none_more (λ a. (b : Difference) × IsAmong b c.args.others.now × IsSum a b c.args.row.now) c.args.others.now c.loop-left.left-index _ c.loop-left.invariant c.loop-left-test.true (λ s. w.if-left-row.false s.2.first)
    ]
