use Rattle.std.proofs.Common.{sym, subst}
use Rattle.std.proofs.lemmas.Result.{IfOk-weaker}
use Rattle.ac_top.specs.ProgramAnswers.{SourceReports, refused, paired}
use Rattle.ac_top.specs.RunStages.{written, IsLoweringOf}
use Rattle.ac_top.proofs.Arities.{read_arities}
use Rattle.ac_top.proofs.Reading.{no_reads}
use Rattle.ac_top.proofs.report.report_lowered.Goals as goal

pub returns-in-Refused-clause-report : goal.returns-in-Refused-clause-report
returns-in-Refused-clause-report g c =
    let left = c.args.left.now in
    let right = c.args.right.now in
    let why = subst (IsLoweringOf left.name.now right.name.now left.bytes.now right.bytes.now c.args.pair.now) c.in-Refused.is c.in_ok-line.ensures in
    subst (SourceReports left.name.now right.name.now left.bytes.now right.bytes.now _ _) (sym c.refused.ensures) (refused c.in-Refused.line.items (no_reads (g.F.Files.transcript c.args.files.now)) why)

pub returns-in-Models-clause-report : goal.returns-in-Models-clause-report
returns-in-Models-clause-report g c =
    let left = c.args.left.now in
    let right = c.args.right.now in
    let made = subst (IsLoweringOf left.name.now right.name.now left.bytes.now right.bytes.now c.args.pair.now) c.in-Models.is c.in_ok-line.ensures in
    IfOk-weaker c.report_task.result _ _ (λ r found. paired c.args.pair.now (written r) c.requires.are made.0 found) c.report_task.ensures.report

pub report_task-requires-clause-arities : goal.report_task-requires-clause-arities
report_task-requires-clause-arities g c = read_arities c.args.left.now.bytes.now c.args.right.now.bytes.now c.args.pair.now c.requires.are
