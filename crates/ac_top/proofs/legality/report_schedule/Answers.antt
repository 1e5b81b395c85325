use Rattle.std.proofs.Common.{rules, ◌≡◌, sym, ap, subst, ◌∙◌}
use Rattle.ac_legal.specs.ScheduleAnswers.{IfKept, IfBroken, KeepsForAll, BreaksForAll}
use Rattle.ac_legal_text.specs.BrokenLines.{broken_line}
use Rattle.ac_top.specs.OrderReports.{OrderReports}
use Rattle.ac_top.specs.Reports.{report as a_report}
use Rattle.ac_top.specs.declared.status.Status.TheVariants as status
use Rattle.ac_top.proofs.Orders.{kept_order, broken_order, stopped_order}
use Rattle.ac_top.proofs.legality.report_schedule.Goals as goal

pub returns-in_ok-kept_line-in-Ok-Kept : goal.returns-in_ok-kept_line-in-Ok-Kept
returns-in_ok-kept_line-in-Ok-Kept c =
    let p = c.args.program.now in
    let times = c.args.order.now.times in
    subst (OrderReports p times) (sym (c.answered.ensures ∙ ap (a_report status.Done) c.in_ok-kept_line-in-Ok-Kept.ensures))
    (kept_order p c.args.model.now times c.requires.program c.requires.model c.requires.valuation (subst (λ l. IfKept l (KeepsForAll c.args.model.now times)) c.in-Ok-Kept.field-0-is c.in-Ok-Kept.ensures.kept))

pub returns-in_ok-text-in-Ok-Broken : goal.returns-in_ok-text-in-Ok-Broken
returns-in_ok-text-in-Ok-Broken c =
    let p = c.args.program.now in
    let times = c.args.order.now.times in
    let said : c.in_ok-text-in-Ok-Broken.text.items ≡ broken_line c.in-Ok-Broken.at.items c.in-Ok-Broken.first.0 c.in-Ok-Broken.first.1.items c.in-Ok-Broken.second.0 c.in-Ok-Broken.second.1.items = search rules in
    subst (OrderReports p times) (sym (c.answered-in-Ok-Broken.ensures ∙ ap (a_report status.Different) said))
    (broken_order p c.args.model.now times c.in-Ok-Broken.at.items c.in-Ok-Broken.first.0 c.in-Ok-Broken.first.1.items c.in-Ok-Broken.second.0 c.in-Ok-Broken.second.1.items c.requires.program c.requires.model c.requires.valuation
    (subst (λ l. IfBroken l (BreaksForAll c.args.model.now times)) c.in-Ok-Broken.field-0-is c.in-Ok-Broken.ensures.broken))

pub returns-in_ok-legal_stop_text-in-Err : goal.returns-in_ok-legal_stop_text-in-Err
returns-in_ok-legal_stop_text-in-Err c =
    let p = c.args.program.now in
    let times = c.args.order.now.times in
    subst (OrderReports p times) (sym c.answered-in-Err.ensures)
    (stopped_order p c.args.model.now times c.in-Err.stop c.in_ok-legal_stop_text-in-Err.field-0.items c.requires.model c.requires.valuation c.in-Err.ensures.stops c.in-Err.ensures.decided c.in_ok-legal_stop_text-in-Err.ensures)
