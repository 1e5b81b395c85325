use Rattle.std.proofs.Common.{sym, ap, subst, ◌∙◌}
use Rattle.std.proofs.lemmas.Result.{IfOk-weaker}
use Rattle.ac_claims.specs.Soundness.{pairing_of}
use Rattle.ac_top.specs.ProgramAnswers.{CheckReports, proof_unread, tested}
use Rattle.ac_top.specs.Reads.{AreReads}
use Rattle.ac_top.specs.Reports.{report as a_report}
use Rattle.ac_top.specs.RunStages.{written, IsFeeding}
use Rattle.ac_top.specs.declared.status.Status.TheVariants as status
use Rattle.ac_top.proofs.check.report_check.Goals as goal

pub returns-then-not-branch-clause-report : goal.returns-then-not-branch-clause-report
returns-then-not-branch-clause-report g c =
    let against = pairing_of c.args.pair.now c.args.left.now c.args.right.now in
    let outputs = c.args.pair.now.outputs in
    let files = g.F.Files.contents c.args.files.now in
    let reads = AreReads (g.F.Files.transcript c.args.files.now) (g.F.Files.transcript c.feed_file.new.files) in
    let failed = subst (IsFeeding files reads c.args.name.now against outputs c.feed_file.new.checker) c.if-not-branch.true (c.in_ok-feed_file.ensures.fed against outputs c.new-checker.ensures.fed) in
    subst (CheckReports files reads c.args.name.now c.args.pair.now) (sym (c.unread.ensures ∙ ap (a_report status.ReadFault) c.in_ok-read_fault_line.ensures)) (proof_unread failed.0 failed.1 failed.2 failed.3 failed.4)

pub returns-clause-report : goal.returns-clause-report
returns-clause-report g c =
    let against = pairing_of c.args.pair.now c.args.left.now c.args.right.now in
    let outputs = c.args.pair.now.outputs in
    let files = g.F.Files.contents c.args.files.now in
    let reads = AreReads (g.F.Files.transcript c.args.files.now) (g.F.Files.transcript c.feed_file.new.files) in
    let stream = subst (IsFeeding files reads c.args.name.now against outputs c.feed_file.new.checker) c.if-not-branch.false (c.in_ok-feed_file.ensures.fed against outputs c.new-checker.ensures.fed) in
    IfOk-weaker c.report_checked.result _ _ (λ r found. tested stream.0 stream.1 (written r) stream.2 stream.3 (found stream.1 stream.4)) c.report_checked.ensures
