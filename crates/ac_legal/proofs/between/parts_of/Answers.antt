use Rattle.std.proofs.Common.{◌≡◌, ◌∙◌, ap, ℕ, ◌++◌}
use Rattle.std.specs.List.{range_with_len}
use Rattle.ac_poly.specs.Coordinates.{width}
use Rattle.ac_legal_law.specs.OrderQuestions.{first_columns, second_columns}
use Rattle.ac_legal.specs.ScheduleAnswers.{AreParts}
use Rattle.ac_legal.proofs.Parting.{parts_listed, if_ok}
use Rattle.ac_legal.proofs.between.parts_of.Goals as goal

pub returns : goal.returns
returns c =
    let m = c.args.m.now in
    let mine : c.in_ok-mine.mine ≡ first_columns m.params c.args.two.now.first.now = c.in_ok-mine.ensures.value ∙ ap (λ (n : ℕ). range_with_len 0 m.params ++ range_with_len m.params n) c.width.ensures in
    let theirs : c.in_ok-theirs.theirs ≡ second_columns m.params c.args.two.now.first.now c.args.two.now.second.now =
    c.in_ok-theirs.ensures.value
    ∙ ap (λ (n : ℕ). range_with_len 0 m.params ++ range_with_len c.args.behind n) c.width-2.ensures
    ∙ ap (λ (n : ℕ). range_with_len 0 m.params ++ range_with_len n (width c.args.two.now.second.now)) c.requires.behind in
    if_ok c.part_list.result _ (AreParts m c.args.order.now.times c.args.two.now.i c.args.two.now.first.now c.args.two.now.j c.args.two.now.second.now)
    (λ parts e.
    parts_listed m c.args.order.now.times c.args.two.now.i c.args.two.now.j c.args.two.now.first.now c.args.two.now.second.now
    c.as_slice.result.now c.as_slice-3.result.now c.as_slice-5.result.now c.as_slice-6.result.now
    c.as_slice-2.result.now c.as_slice-4.result.now
    c.in_ok-own.own c.in_ok-other.other c.in_ok-levels.levels c.in_ok-cells.cells c.in_ok-times.times parts
    (c.as_slice.ensures ∙ mine) c.as_slice-2.ensures (c.as_slice-3.ensures ∙ theirs) c.as_slice-4.ensures (c.as_slice-5.ensures ∙ mine) (c.as_slice-6.ensures ∙ theirs)
    c.in_ok-own.ensures c.in_ok-other.ensures (c.in_ok-levels.ensures c.args.two.now.first.now c.args.two.now.second.now c.requires.stmts.first c.requires.stmts.second) c.in_ok-cells.ensures c.in_ok-times.ensures e)
    c.part_list.ensures
