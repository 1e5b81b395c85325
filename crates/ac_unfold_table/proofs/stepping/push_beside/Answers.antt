use Rattle.std.proofs.Common.{Option, ◌++◌, ◌∙◌, ap}
use Rattle.ac_claims_paths.specs.declared.path.Path.{Path}
use Rattle.ac_claims.specs.RemainingPlans.{start_at}
use Rattle.ac_unfold_table.specs.StepQuestions.{judge}
use Rattle.ac_unfold_table.specs.QuestionLists.{next_if}
use Rattle.ac_unfold_table.proofs.Lists.{flat_range}
use Rattle.ac_unfold_table.proofs.stepping.push_beside.Goals as goal

pub loop-right-preserved : goal.loop-right-preserved
loop-right-preserved c =
    let s = c.args.program_flows.now in
    let order = c.args.order.now in
    flat_range (λ right. next_if s order (start_at (judge s) c.args.claim.now c.args.left right)) c.args.found.now c.loop-right.found c.push_start.new.found c.loop-right.right c.loop-right.invariant
    (c.in_ok-push_start.ensures ∙ ap (λ (o : Option Path). c.loop-right.found ++ next_if s order o) c.in_ok-start.ensures)
