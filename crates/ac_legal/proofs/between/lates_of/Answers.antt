use Rattle.std.proofs.Common.{◌≡◌, ◌∙◌, ap, ℕ, ◌++◌, length}
use Rattle.std.specs.List.{range_with_len}
use Rattle.ac_legal_law.specs.OrderQuestions.{first_counters, second_counters}
use Rattle.ac_legal.proofs.Parting.{lates_listed, if_ok}
use Rattle.ac_legal.proofs.between.lates_of.Goals as goal

pub returns : goal.returns
returns c =
    let m = c.args.m.now in
    let s = c.args.two.now.first.now in
    let u = c.args.two.now.second.now in
    let mine : c.in_ok-mine.mine ≡ first_counters m.params s = c.in_ok-mine.ensures.value ∙ ap (λ (n : ℕ). range_with_len 0 m.params ++ range_with_len m.params n) c.len.ensures in
    let theirs : c.in_ok-theirs.theirs ≡ second_counters m.params s u =
    c.in_ok-theirs.ensures.value
    ∙ ap (λ (n : ℕ). range_with_len 0 m.params ++ range_with_len c.args.behind n) c.len-2.ensures
    ∙ ap (λ (n : ℕ). range_with_len 0 m.params ++ range_with_len n (length u.loops)) c.requires in
    if_ok c.time_part.result _ _
    (λ part h.
    lates_listed m c.args.order.now.times c.args.two.now.i c.args.two.now.j s u c.as_slice.result.now c.as_slice-2.result.now c.forms_at.result.now c.forms_at-2.result.now part
    (c.as_slice.ensures ∙ mine) c.forms_at.ensures (c.as_slice-2.ensures ∙ theirs) c.forms_at-2.ensures h)
    c.time_part.ensures
