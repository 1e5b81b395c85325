use Rattle.std.proofs.Common.{◌≡◌, IfSome, List, [], ◌∷◌, ℕ, Option, sym, ap, subst, ◌∙◌}
use Rattle.std.proofs.lemmas.Result.{IfOk-weaker}
use Rattle.ac_port.specs.Contents.{Contents, IsTooBig}
use Rattle.ac_port.specs.Transcripts.{handed_out, read_failed, was_too_big}
use Rattle.ac_cli_args.specs.SymbolLists.{listed_in}
use Rattle.ac_top.specs.Reports.{report as a_report}
use Rattle.ac_top.specs.ProgramAnswers.{ChainReports, FileReports, Holds, first_unread, first_too_long, second_unread, second_too_long, sources}
use Rattle.ac_top.specs.declared.status.Status.TheVariants as status
use Rattle.ac_top.specs.Reads.{AreReads, source_read}
use Rattle.ac_top.specs.RunStages.{written, IsSource}
use Rattle.ac_top.proofs.Reading.{reads_on}
use Rattle.ac_top.proofs.aprove.report_aprove.Goals as goal

pub returns-clause-report : goal.returns-clause-report
returns-clause-report g c =
    let files : Option Contents = g.F.Files.contents c.args.files.now in
    let begun = g.F.Files.transcript c.args.files.now in
    let between = g.F.Files.transcript c.read_source.new.files in
    let ended = g.F.Files.transcript c.read_source-2.new.files in
    let a = c.args.a.now in
    let b = c.args.b.now in
    let names = listed_in c.args.symbols.now in
    let x = c.in-Bytes.bytes.items in
    let y = c.in-Bytes-2.bytes.items in
    let one = subst (IsSource files (AreReads begun between) a) c.in-Bytes.is c.in_ok-bytes.ensures.source in
    let two = subst (IsSource (g.F.Files.contents c.read_source.new.files) (AreReads between ended) b) c.in-Bytes-2.is c.in_ok-bytes-2.ensures.source in
    let second : Holds files b y = subst (λ f. Holds f b y) c.read_source.ensures.same two.0 in
    let both : AreReads begun ended (source_read a (handed_out x) ∷ source_read b (handed_out y) ∷ []) =
    reads_on begun between ended (source_read a (handed_out x) ∷ []) (source_read b (handed_out y) ∷ []) one.1 two.1 in
    let same : c.as_slice-3.result.now ≡ names = c.as_slice-3.ensures.value ∙ c.in_ok-names.ensures in
    IfOk-weaker c.report_texts.result _ _
    (λ r found. sources x y (written r) one.0 second (
      both,
      subst (λ (t : List ℕ). ChainReports a b t y names (written r)) c.as_slice.ensures.value
          (subst (λ (t : List ℕ). ChainReports a b c.as_slice.result.now t names (written r)) c.as_slice-2.ensures.value
          (subst (λ (ns : List (List ℕ)). ChainReports a b c.as_slice.result.now c.as_slice-2.result.now ns (written r)) same found)),
    ))
    c.report_texts.ensures

pub returns-in-Unread-clause-report : goal.returns-in-Unread-clause-report
returns-in-Unread-clause-report g c =
    let files = g.F.Files.contents c.args.files.now in
    let reads = AreReads (g.F.Files.transcript c.args.files.now) (g.F.Files.transcript c.read_source.new.files) in
    let failed = subst (IsSource files reads c.args.a.now) c.in-Unread.is c.in_ok-bytes.ensures.source in
    subst (FileReports files reads c.args.a.now c.args.b.now _) (sym (c.unread.ensures ∙ ap (a_report status.ReadFault) c.in_ok-read_fault_line-in-Unread.ensures)) (first_unread failed)

pub returns-in-TooLong-clause-report : goal.returns-in-TooLong-clause-report
returns-in-TooLong-clause-report g c =
    let files = g.F.Files.contents c.args.files.now in
    let reads = AreReads (g.F.Files.transcript c.args.files.now) (g.F.Files.transcript c.read_source.new.files) in
    let said = subst (IsSource files reads c.args.a.now) c.in-TooLong.is c.in_ok-bytes.ensures.source in
    subst (FileReports files reads c.args.a.now c.args.b.now _) (sym (c.refused.ensures ∙ ap (a_report status.Refused) c.in_ok-too_long_line-in-TooLong.ensures)) (first_too_long said.0 said.1)

pub returns-in-Unread-2-clause-report : goal.returns-in-Unread-2-clause-report
returns-in-Unread-2-clause-report g c =
    let files = g.F.Files.contents c.args.files.now in
    let begun = g.F.Files.transcript c.args.files.now in
    let between = g.F.Files.transcript c.read_source.new.files in
    let ended = g.F.Files.transcript c.read_source-2.new.files in
    let x = c.in-Bytes.bytes.items in
    let one = subst (IsSource files (AreReads begun between) c.args.a.now) c.in-Bytes.is c.in_ok-bytes.ensures.source in
    let failed = subst (IsSource (g.F.Files.contents c.read_source.new.files) (AreReads between ended) c.args.b.now) c.in-Unread-2.is c.in_ok-bytes-2.ensures.source in
    let both = reads_on begun between ended (source_read c.args.a.now (handed_out x) ∷ []) (source_read c.args.b.now read_failed ∷ []) one.1 failed in
    subst (FileReports files (AreReads begun ended) c.args.a.now c.args.b.now _) (sym (c.unread-in-Unread-2.ensures ∙ ap (a_report status.ReadFault) c.in_ok-read_fault_line-in-Unread-2.ensures)) (second_unread x both one.0)

pub returns-in-TooLong-2-clause-report : goal.returns-in-TooLong-2-clause-report
returns-in-TooLong-2-clause-report g c =
    let files = g.F.Files.contents c.args.files.now in
    let begun = g.F.Files.transcript c.args.files.now in
    let between = g.F.Files.transcript c.read_source.new.files in
    let ended = g.F.Files.transcript c.read_source-2.new.files in
    let x = c.in-Bytes.bytes.items in
    let one = subst (IsSource files (AreReads begun between) c.args.a.now) c.in-Bytes.is c.in_ok-bytes.ensures.source in
    let told = subst (IsSource (g.F.Files.contents c.read_source.new.files) (AreReads between ended) c.args.b.now) c.in-TooLong-2.is c.in_ok-bytes-2.ensures.source in
    let said = subst (λ f. IfSome f (λ contents. IsTooBig contents c.args.b.now 65536)) c.read_source.ensures.same told.1 in
    let both = reads_on begun between ended (source_read c.args.a.now (handed_out x) ∷ []) (source_read c.args.b.now was_too_big ∷ []) one.1 told.0 in
    subst (FileReports files (AreReads begun ended) c.args.a.now c.args.b.now _) (sym (c.refused-in-TooLong-2.ensures ∙ ap (a_report status.Refused) c.in_ok-too_long_line-in-TooLong-2.ensures)) (second_too_long x both one.0 said)
