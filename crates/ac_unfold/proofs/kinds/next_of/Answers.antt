use Rattle.std.proofs.Common.{sym, ◌∙◌}
use Rattle.ac_unfold.proofs.Stops.{calls_take, left_takes, right_takes}
use Rattle.ac_unfold.proofs.Unmatched.{calls_kind, leaf_ends, leaf_is, left_kind, none_of, right_kind}
use Rattle.ac_unfold.proofs.kinds.next_of.Goals as goal

pub returns-then-is_some-clause-kind : goal.returns-then-is_some-clause-kind
returns-then-is_some-clause-kind c = left_kind c.args.search.now c.args.node.now.question c.in_ok-cell_read.field-0 c.in_ok-cell_read.ensures (sym c.is_some.ensures ∙ c.if-is_some.true)

pub returns-then-is_some-2-clause-kind : goal.returns-then-is_some-2-clause-kind
returns-then-is_some-2-clause-kind c = right_kind c.args.search.now c.args.node.now.question c.in_ok-cell_read.field-0 c.in_ok-cell_read-2.field-0 c.in_ok-cell_read.ensures (sym c.is_some.ensures ∙ c.if-is_some.false) c.in_ok-cell_read-2.ensures (sym c.is_some-2.ensures ∙ c.if-is_some-2.true)

pub returns-then-are_calls-clause-kind : goal.returns-then-are_calls-clause-kind
returns-then-are_calls-clause-kind c = calls_kind c.args.search.now c.args.node.now.question c.in_ok-cell_read.field-0 c.in_ok-cell_read-2.field-0 c.order_at.result c.in_ok-cell_read.ensures (sym c.is_some.ensures ∙ c.if-is_some.false) c.in_ok-cell_read-2.ensures (sym c.is_some-2.ensures ∙ c.if-is_some-2.false) c.order_at.ensures

pub returns-then-is_some-clause-next : goal.returns-then-is_some-clause-next
returns-then-is_some-clause-next c = left_takes c.args.search.now c.args.node.now.question c.in_ok-cell_read.field-0 c.in_ok-cell_read.ensures (sym c.is_some.ensures ∙ c.if-is_some.true)

pub returns-then-is_some-2-clause-next : goal.returns-then-is_some-2-clause-next
returns-then-is_some-2-clause-next c = right_takes c.args.search.now c.args.node.now.question c.in_ok-cell_read-2.field-0 c.in_ok-cell_read-2.ensures (sym c.is_some-2.ensures ∙ c.if-is_some-2.true)

pub returns-then-are_calls-clause-next : goal.returns-then-are_calls-clause-next
returns-then-are_calls-clause-next c =
    calls_take c.args.search.now c.args.node.now.question c.order_at.result (sym c.in_ok-cell_read.ensures ∙ none_of c.in_ok-cell_read.field-0 (sym c.is_some.ensures ∙ c.if-is_some.false)) (sym c.in_ok-cell_read-2.ensures ∙ none_of c.in_ok-cell_read-2.field-0 (sym c.is_some-2.ensures ∙ c.if-is_some-2.false)) c.order_at.ensures

pub returns-then-are_calls-clause-calls : goal.returns-then-are_calls-clause-calls
returns-then-are_calls-clause-calls c = c.are_calls.ensures.there c.if-are_calls.true

pub returns-clause-ends : goal.returns-clause-ends
returns-clause-ends c =
    let s = c.args.search.now in
    let q = c.args.node.now.question in
    leaf_ends c.leaves.result s q
    (leaf_is s q c.in_ok-cell_read.field-0 c.in_ok-cell_read-2.field-0 c.are_calls.result c.in_ok-cell_read.ensures (sym c.is_some.ensures ∙ c.if-is_some.false) c.in_ok-cell_read-2.ensures (sym c.is_some-2.ensures ∙ c.if-is_some-2.false) c.are_calls.ensures.none c.if-are_calls.false)
