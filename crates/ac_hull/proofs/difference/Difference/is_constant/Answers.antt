use Rattle.std.proofs.Common.{◌≡◌, Some, sym, ◌∙◌, ap, rules, of_z}
use Rattle.std.specs.Prelude.{slice_get}
use Rattle.std.specs.Int.{w128}
use Rattle.ac_hull.specs.ColumnDifferences.{gap_of}
use Rattle.ac_hull.proofs.Comparing.{among_at, first_among, not_constant, constant_of, each_whole}
use Rattle.ac_hull.proofs.difference.Difference.is_constant.Goals as goal

pub returns-then-gap : goal.returns-then-gap
returns-then-gap c =
    let f : slice_get c.args.points.now 0 ≡ Some c.in-Some.base.now = cc c.in-Some.ensures.value in
    let p : c.gap.result ≡ gap_of c.args.self.now c.point-item.result = c.gap.ensures ∙ ap (gap_of c.args.self.now) c.as_slice.ensures in
    let q : c.gap-in-loop-point.result ≡ gap_of c.args.self.now c.in-Some.base.now = c.gap-in-loop-point.ensures ∙ ap (gap_of c.args.self.now) c.as_slice-in-loop-point.ensures in
    let n : ¬ (gap_of c.args.self.now c.point-item.result ≡ gap_of c.args.self.now c.in-Some.base.now) = λ e. c.if-gap.true (ap (of_z w128) (p ∙ e ∙ sym q)) in
    ((λ t. absurd cc), (λ k. absurd (not_constant c.args.points.now c.args.self.now c.in-Some.base.now c.point-item.result (first_among c.args.points.now c.in-Some.base.now f) (among_at c.args.points.now c.loop-point.point-index c.point-item.result c.loop-point-test.true c.point-item.is) n k)))

pub returns : goal.returns
returns c =
    ((λ t. constant_of c.args.points.now c.args.self.now c.in-Some.base.now (each_whole (λ p. gap_of c.args.self.now p ≡ gap_of c.args.self.now c.in-Some.base.now) c.args.points.now c.loop-point.point-index c.loop-point.invariant (search rules))), (λ k. search rules))
