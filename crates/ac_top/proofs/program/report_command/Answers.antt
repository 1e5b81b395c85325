use Rattle.std.proofs.Common.{sym, subst}
use Rattle.std.proofs.lemmas.Result.{IfOk-weaker}
use Rattle.ac_cli_args.specs.Commands.{asked_by}
use Rattle.ac_cli_args.specs.UniqueCommands.{IsInRange}
use Rattle.ac_top.specs.ProgramAnswers.{CommandReports}
use Rattle.ac_top.specs.Reads.{AreReads}
use Rattle.ac_top.specs.RunStages.{written}
use Rattle.ac_top.proofs.Reading.{no_reads}
use Rattle.ac_top.proofs.program.report_command.Goals as goal

pub report_files-requires-in-Instance : goal.report_files-requires-in-Instance
report_files-requires-in-Instance g c = let range = subst (λ d. IsInRange (asked_by d)) c.in-Instance.is c.requires in record { within = range.1 }

pub report_generated-requires : goal.report_generated-requires
report_generated-requires g c = let range = subst (λ d. IsInRange (asked_by d)) c.in-Gen.is c.requires in record { some = range.1; few = range.2 }

pub returns-in-Prove-clause-report : goal.returns-in-Prove-clause-report
returns-in-Prove-clause-report g c =
    let Told = CommandReports (g.F.Files.contents c.args.files.now) (AreReads (g.F.Files.transcript c.args.files.now) (g.F.Files.transcript c.report_files.new.files)) in
    IfOk-weaker c.report_files.result _ _ (λ r found. subst (λ d. Told (asked_by d) (written r)) (sym c.in-Prove.is) found) c.report_files.ensures.report

pub returns-in-Instance-clause-report : goal.returns-in-Instance-clause-report
returns-in-Instance-clause-report g c =
    let Told = CommandReports (g.F.Files.contents c.args.files.now) (AreReads (g.F.Files.transcript c.args.files.now) (g.F.Files.transcript c.report_files-in-Instance.new.files)) in
    IfOk-weaker c.report_files-in-Instance.result _ _ (λ r found. subst (λ d. Told (asked_by d) (written r)) (sym c.in-Instance.is) found) c.report_files-in-Instance.ensures.report

pub returns-in-Check-clause-report : goal.returns-in-Check-clause-report
returns-in-Check-clause-report g c =
    let Told = CommandReports (g.F.Files.contents c.args.files.now) (AreReads (g.F.Files.transcript c.args.files.now) (g.F.Files.transcript c.report_files-in-Check.new.files)) in
    IfOk-weaker c.report_files-in-Check.result _ _ (λ r found. subst (λ d. Told (asked_by d) (written r)) (sym c.in-Check.is) found) c.report_files-in-Check.ensures.report

pub returns-in-Flow-clause-report : goal.returns-in-Flow-clause-report
returns-in-Flow-clause-report g c =
    let Told = CommandReports (g.F.Files.contents c.args.files.now) (AreReads (g.F.Files.transcript c.args.files.now) (g.F.Files.transcript c.report_flow.new.files)) in
    IfOk-weaker c.report_flow.result _ _ (λ r found. subst (λ d. Told (asked_by d) (written r)) (sym c.in-Flow.is) found) c.report_flow.ensures.report

pub returns-in-Legal-clause-report : goal.returns-in-Legal-clause-report
returns-in-Legal-clause-report g c =
    let Told = CommandReports (g.F.Files.contents c.args.files.now) (AreReads (g.F.Files.transcript c.args.files.now) (g.F.Files.transcript c.report_legal.new.files)) in
    IfOk-weaker c.report_legal.result _ _ (λ r found. subst (λ d. Told (asked_by d) (written r)) (sym c.in-Legal.is) found) c.report_legal.ensures.report

pub report_aprove-requires : goal.report_aprove-requires
report_aprove-requires g c = subst (λ d. IsInRange (asked_by d)) c.in-Aprove.is c.requires

pub returns-in-Aprove-clause-report : goal.returns-in-Aprove-clause-report
returns-in-Aprove-clause-report g c =
    let Told = CommandReports (g.F.Files.contents c.args.files.now) (AreReads (g.F.Files.transcript c.args.files.now) (g.F.Files.transcript c.report_aprove.new.files)) in
    IfOk-weaker c.report_aprove.result _ _ (λ r found. subst (λ d. Told (asked_by d) (written r)) (sym c.in-Aprove.is) found) c.report_aprove.ensures.report

pub returns-in-Gen-clause-report : goal.returns-in-Gen-clause-report
returns-in-Gen-clause-report g c =
    let Told = CommandReports (g.F.Files.contents c.args.files.now) (AreReads (g.F.Files.transcript c.args.files.now) (g.F.Files.transcript c.args.files.now)) in
    IfOk-weaker c.report_generated.result _ _ (λ r found. subst (λ d. Told (asked_by d) (written r)) (sym c.in-Gen.is) (no_reads (g.F.Files.transcript c.args.files.now), found)) c.report_generated.ensures
