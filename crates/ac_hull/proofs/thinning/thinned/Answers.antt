use Rattle.std.proofs.Common.{◌≡◌, ◌++◌, ◌+◌, drop, rules, ◌∙◌, ap}
use Rattle.ac_widen.proofs.Combining.{each_among}
use Rattle.ac_hull.specs.ColumnDifferences.{AllMeetRow}
use Rattle.ac_hull.proofs.Comparing.{no_true}
use Rattle.ac_hull.proofs.Thinnings.{among_place, thin_start, thin_drop, thin_keep, thin_end, rest_all}
use Rattle.ac_hull.proofs.thinning.thinned.Goals as goal
use Rattle.ac_hull.proofs.thinning.thinned.Goals.{then-not-is_redundant+in_ok-push, else-not-is_redundant}

pub loop-at-init : goal.loop-at-init
loop-at-init c = rw c.new-kept.ensures (thin_start c.args.points.now c.args.rows.now)

pub loop-at-preserved : goal.loop-at-preserved
loop-at-preserved c =
    let others : c.as_slice-in-loop-at.result.now ≡ c.loop-at.kept ++ drop (c.loop-at.at + 1) c.args.rows.now = c.as_slice-in-loop-at.ensures ∙ c.in_ok-others.ensures ∙ ap (λ t. c.as_slice.result.now ++ t) (rest_all c.args.rows.now (c.loop-at.at + 1)) ∙ ap (λ t. t ++ drop (c.loop-at.at + 1) c.args.rows.now) c.as_slice.ensures in
    let tested = rw others at c.is_redundant.ensures in
    elim c.if-not-is_redundant.branch [
      | then-not-is_redundant+in_ok-push w ↦
          rw (w.kept-is, w.in_ok-push.ensures.ok)
          (thin_keep c.args.points.now c.args.rows.now c.loop-at.kept c.loop-at.at _ c.loop-at.invariant c.loop-at-test.true (λ r. no_true c.is_redundant.result (tested.1 r) w.if-not-is_redundant.true))
      | else-not-is_redundant w ↦
          rw w.kept-is
          (thin_drop c.args.points.now c.args.rows.now c.loop-at.kept c.loop-at.at _ c.loop-at.invariant c.loop-at-test.true
          (each_among (AllMeetRow c.args.points.now) _ c.args.rows.now c.requires.met (among_place c.args.rows.now c.loop-at.at _ c.loop-at-test.true)) (tested.0 w.if-not-is_redundant.false))
    ]

pub returns : goal.returns
returns c = thin_end c.args.points.now c.args.rows.now c.loop-at.kept c.loop-at.at c.loop-at.invariant (search rules)
