use Rattle.std.proofs.Common.{sym, ap, subst, ◌∙◌}
use Rattle.ac_top.specs.ProgramAnswers.{OrderOfTextReports, program_refused}
use Rattle.ac_top.specs.Reports.{report as a_report}
use Rattle.ac_top.specs.RunStages.{IsParsed, said_by}
use Rattle.ac_top.specs.declared.status.Status.TheVariants as status
use Rattle.ac_top.proofs.legality.report_texts.Goals as goal

pub report_program-requires-clause-is : goal.report_program-requires-clause-is
report_program-requires-clause-is c = let made = subst (IsParsed c.args.file.now.bytes.now) c.in-Program.is c.in_ok-program.ensures in made.0

pub report_program-requires-clause-read : goal.report_program-requires-clause-read
report_program-requires-clause-read c = let made = subst (IsParsed c.args.file.now.bytes.now) c.in-Program.is c.in_ok-program.ensures in made.1

pub returns-in_ok-refusal_line-in-Refused : goal.returns-in_ok-refusal_line-in-Refused
returns-in_ok-refusal_line-in-Refused c =
    let file = c.args.file.now in
    let why = subst (IsParsed file.bytes.now) c.in-Refused.is c.in_ok-program.ensures in
    subst (OrderOfTextReports file.name.now file.bytes.now c.args.spelled.now) (sym (c.refused.ensures ∙ ap (a_report status.Refused) c.in_ok-refusal_line-in-Refused.ensures)) (program_refused (said_by c.in-Refused.complaint) why)
