use Rattle.std.proofs.Common.{sym, ap, subst, ◌∙◌}
use Rattle.std.proofs.lemmas.Result.{IfOk-weaker}
use Rattle.ac_top.specs.ProgramAnswers.{OrderOfTextReports, program_not_lowered, program_lowered}
use Rattle.ac_top.specs.Reports.{report as a_report}
use Rattle.ac_top.specs.RunStages.{written, IsLowering, said_by}
use Rattle.ac_top.specs.declared.status.Status.TheVariants as status
use Rattle.ac_top.proofs.legality.report_program.Goals as goal

pub returns-in-Model : goal.returns-in-Model
returns-in-Model c =
    let p = c.args.program.now in
    let made = subst (IsLowering p p.context) c.in-Model.is c.in_ok-model.ensures in
    IfOk-weaker c.report_order_text.result _ _ (λ r found. program_lowered p (written r) c.requires.is made.0 found) c.report_order_text.ensures

pub returns-in_ok-refusal_line-in-Refused : goal.returns-in_ok-refusal_line-in-Refused
returns-in_ok-refusal_line-in-Refused c =
    let p = c.args.program.now in
    let file = c.args.file.now in
    let why = subst (IsLowering p p.context) c.in-Refused.is c.in_ok-model.ensures in
    subst (OrderOfTextReports file.name.now file.bytes.now c.args.spelled.now) (sym (c.refused.ensures ∙ ap (a_report status.Refused) c.in_ok-refusal_line-in-Refused.ensures)) (program_not_lowered p (said_by c.in-Refused.complaint) c.requires.is why)
