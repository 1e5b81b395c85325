use Rattle.std.proofs.Common.{List, ℕ, sym, ap, subst, ◌∙◌}
use Rattle.std.proofs.lemmas.Result.{IfOk-weaker}
use Rattle.ac_top.specs.ProgramAnswers.{OneFileReports, TextReports, file_unread, file_too_long, text_of_file}
use Rattle.ac_top.specs.Reads.{AreReads}
use Rattle.ac_top.specs.Reports.{report as a_report}
use Rattle.ac_top.specs.RunStages.{written, IsSource}
use Rattle.ac_top.specs.declared.status.Status.TheVariants as status
use Rattle.ac_top.proofs.flows.report_flow.Goals as goal

pub returns-in-Unread-clause-report : goal.returns-in-Unread-clause-report
returns-in-Unread-clause-report g c =
    let files = g.F.Files.contents c.args.files.now in
    let reads = AreReads (g.F.Files.transcript c.args.files.now) (g.F.Files.transcript c.read_source.new.files) in
    let failed = subst (IsSource files reads c.args.name.now) c.in-Unread.is c.in_ok-bytes.ensures.source in
    subst (OneFileReports files reads c.args.name.now) (sym (c.unread.ensures ∙ ap (a_report status.ReadFault) c.in_ok-read_fault_line-in-Unread.ensures)) (file_unread failed)

pub returns-in-TooLong-clause-report : goal.returns-in-TooLong-clause-report
returns-in-TooLong-clause-report g c =
    let files = g.F.Files.contents c.args.files.now in
    let reads = AreReads (g.F.Files.transcript c.args.files.now) (g.F.Files.transcript c.read_source.new.files) in
    let said = subst (IsSource files reads c.args.name.now) c.in-TooLong.is c.in_ok-bytes.ensures.source in
    subst (OneFileReports files reads c.args.name.now) (sym (c.refused.ensures ∙ ap (a_report status.Refused) c.in_ok-too_long_line-in-TooLong.ensures)) (file_too_long said.0 said.1)

pub returns-clause-report : goal.returns-clause-report
returns-clause-report g c =
    let files = g.F.Files.contents c.args.files.now in
    let reads = AreReads (g.F.Files.transcript c.args.files.now) (g.F.Files.transcript c.read_source.new.files) in
    let got = subst (IsSource files reads c.args.name.now) c.in-Bytes.is c.in_ok-bytes.ensures.source in
    IfOk-weaker c.report_text.result _ _
    (λ r found. text_of_file c.in-Bytes.bytes.items (written r) got.1 got.0 (subst (λ (t : List ℕ). TextReports c.args.name.now t (written r)) c.as_slice.ensures.value found))
    c.report_text.ensures
