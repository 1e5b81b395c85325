use Rattle.std.proofs.Common.{sym, ap, subst, ◌∙◌}
use Rattle.std.proofs.lemmas.Result.{IfOk-weaker}
use Rattle.ac_legal_text.specs.LineKinds.{HasFault}
use Rattle.ac_legal_text.specs.OrderAnswers.{IfLine}
use Rattle.ac_legal_text.specs.OrderTexts.{Spells}
use Rattle.ac_top.specs.OrderReports.{OrderTextReports, order_refused, order_read}
use Rattle.ac_top.specs.Reports.{report as a_report}
use Rattle.ac_top.specs.RunStages.{written}
use Rattle.ac_top.specs.declared.status.Status.TheVariants as status
use Rattle.ac_top.proofs.legality.report_order_text.Goals as goal

pub returns-in-Ok : goal.returns-in-Ok
returns-in-Ok c =
    let p = c.args.program.now in
    IfOk-weaker c.report_order.result _ _ (λ r found. order_read c.in-Ok.order.times (written r) (subst (λ m. Spells m c.args.spelled.now c.in-Ok.order.times) c.requires.model c.in-Ok.ensures.spelled) found) c.report_order.ensures

pub returns-in_ok-order_fault_line-in-Err-Line : goal.returns-in_ok-order_fault_line-in-Err-Line
returns-in_ok-order_fault_line-in-Err-Line c =
    let p = c.args.program.now in
    let fault : HasFault c.args.model.now c.args.spelled.now c.in-Err-Line.number = subst (λ f. IfLine f (HasFault c.args.model.now c.args.spelled.now)) c.in-Err-Line.field-0-is c.in-Err-Line.ensures.fault in
    subst (OrderTextReports p c.args.spelled.now) (sym (c.refused.ensures ∙ ap (a_report status.Refused) c.in_ok-order_fault_line-in-Err-Line.ensures))
    (order_refused c.in-Err-Line.number (subst (λ m. HasFault m c.args.spelled.now c.in-Err-Line.number) c.requires.model fault))
