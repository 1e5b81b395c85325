use Rattle.std.proofs.Common.{subst, ◌∙◌, ap, ◌-◌, ℕ}
use Rattle.ac_forms.specs.Renaming.{CanRenameAll}
use Rattle.ac_forms.specs.FormStops.{IfWide}
use Rattle.ac_forms.specs.declared.stop.FormStop.{FormStop}
use Rattle.ac_unfold_table.proofs.Resting.{rest_made, rest_none}
use Rattle.ac_unfold_table.proofs.stepping.at_rest.Goals as goal

pub returns-in-Ok : goal.returns-in-Ok
returns-in-Ok c =
    rest_made c.args.params c.args.question.now c.args.rest.now c.in-Some.assumed c.in_ok-columns.columns c.as_slice-2.result.now c.saturating_sub-further.result c.as_slice.result.now c.in-Ok.rows c.in_ok-extended-in-Ok.field-0 c.in-Some.is c.in_ok-columns.ensures
    (c.saturating_sub-further.ensures ∙ ap (λ (n : ℕ). c.args.rest.now.columns - n) c.len.ensures) (c.as_slice-2.ensures ∙ c.in_ok-push_range.ensures) c.as_slice.ensures c.in-Ok.ensures.exact c.in_ok-extended-in-Ok.ensures

pub returns-in-Err-Wide : goal.returns-in-Err-Wide
returns-in-Err-Wide c =
    rest_none c.args.params c.args.question.now c.args.rest.now c.in-Some.assumed c.in_ok-columns.columns c.as_slice-2.result.now c.saturating_sub-further.result c.as_slice.result.now c.in-Some.is c.in_ok-columns.ensures
    (c.saturating_sub-further.ensures ∙ ap (λ (n : ℕ). c.args.rest.now.columns - n) c.len.ensures) (c.as_slice-2.ensures ∙ c.in_ok-push_range.ensures) c.as_slice.ensures
    (subst (λ (s : FormStop). IfWide s (¬ (CanRenameAll c.as_slice-2.result.now c.as_slice.result.now))) c.in-Err-Wide.field-0-is c.in-Err-Wide.ensures.exact)
