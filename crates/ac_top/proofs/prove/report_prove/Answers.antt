use Rattle.std.proofs.Common.{sym, ap, subst, ◌∙◌}
use Rattle.std.specs.Option.{option_map}
use Rattle.ac_walk.specs.UnknownCauses.{IsEmptyAt}
use Rattle.ac_walk.specs.Verdicts.{IsStop}
use Rattle.ac_top.specs.ProveReports.{ProveReports, empty_context}
use Rattle.ac_top.specs.Reports.{report as a_report}
use Rattle.ac_top.specs.declared.status.Status.TheVariants as status
use Rattle.ac_top.proofs.Proving.{accepted_named}
use Rattle.ac_top.proofs.prove.report_prove.Goals as goal

pub returns-in_ok-empty_context_line-in-Err-EmptyContext : goal.returns-in_ok-empty_context_line-in-Err-EmptyContext
returns-in_ok-empty_context_line-in-Err-EmptyContext c =
    let pair = c.args.pair.now in
    subst (ProveReports pair c.args.budget (option_map (λ w. w.now) c.args.name)) (sym (c.refused.ensures ∙ ap (a_report status.Refused) c.in_ok-empty_context_line-in-Err-EmptyContext.ensures))
    (empty_context (subst (IsEmptyAt c.args.budget pair) c.in-Err-EmptyContext.field-0-is c.in-Err-EmptyContext.ensures.empty) (subst (IsStop pair) c.in-Err-EmptyContext.field-0-is c.in-Err-EmptyContext.ensures.stops))

pub report_proved-requires-clause-proof : goal.report_proved-requires-clause-proof
report_proved-requires-clause-proof c =
    let h = c.in-Ok.ensures in
    record { names = h.outputs; accepted = accepted_named c.args.budget c.args.pair.now c.in-Ok.proved.verdicts c.in-Ok.proved.proof h.causes h.outputs h.accepted }
