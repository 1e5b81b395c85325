use Rattle.std.proofs.Common.{Some, inl, inr, sym, ◌∙◌}
use Rattle.ac_unfold.specs.PlanResults.{judge_of}
use Rattle.ac_unfold.specs.UnfoldStops.{HandsTargets}
use Rattle.ac_unfold.proofs.Matching.{forms_same, initial_ends}
use Rattle.ac_unfold.proofs.Stopped.{cell_targets, hands_targets, if_err}
use Rattle.ac_unfold.proofs.Unmatched.{cell_kind, other_cells}
use Rattle.ac_unfold.proofs.kinds.cells.Goals as goal
use Rattle.ac_unfold.proofs.kinds.cells.Goals.{then-cell-other-via-then-cell-other, then-cell-other-via-else-cell-other+then-not-is_input}

pub returns-then-cell-other-clause-kind : goal.returns-then-cell-other-clause-kind
returns-then-cell-other-clause-kind c =
    other_cells c.args.search.now c.args.node.now.question c.args.cell.now c.args.other.now c.requires.left c.requires.right
    (elim c.then-cell-other.branch [ then-cell-other-via-then-cell-other w ↦ inl w.if-cell-other.true | then-cell-other-via-else-cell-other+then-not-is_input w ↦ inr (sym w.is_input.ensures ∙ w.if-not-is_input.true) ])

pub returns-clause-next : goal.returns-clause-next
returns-clause-next c =
    let q = c.args.node.now.question in
    initial_ends c.args.search.now q c.args.cell.now c.args.other.now c.in_ok-rows_or.field-0 c.requires.left c.requires.right c.if-cell-other.false (sym c.is_input.ensures ∙ c.if-not-is_input.false)
    (sym c.in_ok-rows_or.ensures.rows ∙ c.in_ok-rows.ensures.value ∙ forms_same q c.params.result (judge_of c.args.search.now).params c.as_slice.result.now c.as_slice-2.result.now c.args.cell.now.subs c.args.other.now.subs c.params.ensures c.as_slice.ensures c.as_slice-2.ensures)

pub returns-clause-kind : goal.returns-clause-kind
returns-clause-kind c =
    let q = c.args.node.now.question in
    cell_kind c.args.search.now q c.args.cell.now c.args.other.now c.in_ok-rows_or.field-0 c.requires.left c.requires.right c.if-cell-other.false (sym c.is_input.ensures ∙ c.if-not-is_input.false)
    (sym c.in_ok-rows_or.ensures.rows ∙ c.in_ok-rows.ensures.value ∙ forms_same q c.params.result (judge_of c.args.search.now).params c.as_slice.result.now c.as_slice-2.result.now c.args.cell.now.subs c.args.other.now.subs c.params.ensures c.as_slice.ensures c.as_slice-2.ensures)

pub returns-in_err-rows_or-clause-causes : goal.returns-in_err-rows_or-clause-causes
returns-in_err-rows_or-clause-causes c =
    let s = c.args.search.now in
    let q = c.args.node.now.question in
    let stop = c.in_err-rows_or.field-0.0 in
    if_err (HandsTargets s q) c.from_residual-in_err-rows_or.result stop c.from_residual-in_err-rows_or.ensures.1
    (hands_targets s q c.in_ok-rows.rows stop
    (cell_targets s q c.args.cell.now c.args.other.now c.in_ok-rows.rows c.requires.left c.requires.right c.if-cell-other.false (sym c.is_input.ensures ∙ c.if-not-is_input.false)
    (c.in_ok-rows.ensures.value ∙ forms_same q c.params.result (judge_of s).params c.as_slice.result.now c.as_slice-2.result.now c.args.cell.now.subs c.args.other.now.subs c.params.ensures c.as_slice.ensures c.as_slice-2.ensures)) c.in_err-rows_or.ensures.causes)

pub returns-clause-targets : goal.returns-clause-targets
returns-clause-targets c =
    let q = c.args.node.now.question in
    cell_targets c.args.search.now q c.args.cell.now c.args.other.now (Some c.in_ok-rows_or.field-0) c.requires.left c.requires.right c.if-cell-other.false (sym c.is_input.ensures ∙ c.if-not-is_input.false)
    (sym c.in_ok-rows_or.ensures.rows ∙ c.in_ok-rows.ensures.value ∙ forms_same q c.params.result (judge_of c.args.search.now).params c.as_slice.result.now c.as_slice-2.result.now c.args.cell.now.subs c.args.other.now.subs c.params.ensures c.as_slice.ensures c.as_slice-2.ensures)
