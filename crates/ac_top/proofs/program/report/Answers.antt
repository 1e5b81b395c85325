use Rattle.std.proofs.Common.{◌≡◌, ℕ, List, map, MatchOption, ap, sym, subst, ◌∙◌}
use Rattle.std.specs.List.{AllByRecursion}
use Rattle.std.specs.Str.{IsUtf8}
use Rattle.std.proofs.lemmas.Result.{IfOk-weaker}
use Rattle.ac_cli_args.specs.Commands.{spelled}
use Rattle.ac_cli_args.proofs.Forms.{no_text}
use Rattle.ac_top.specs.ProgramAnswers.{Reports, no_form}
use Rattle.ac_top.specs.Reads.{AreReads}
use Rattle.ac_top.specs.RunStages.{written}
use Rattle.ac_top.proofs.Reading.{no_reads}
use Rattle.ac_top.proofs.program.report.Goals as goal

pub report_texts-requires : goal.report_texts-requires
report_texts-requires g c =
    let words : List (List ℕ) = spelled c.args.words.now in
    let some : (map (λ s. s.now) c.in-Some.texts.items ≡ words) × AllByRecursion IsUtf8 words =
    subst (λ f. MatchOption f (¬ (AllByRecursion IsUtf8 words)) (λ texts. (map (λ s. s.now) texts.items ≡ words) × AllByRecursion IsUtf8 words)) c.in-Some.is c.in_ok-found.ensures in
    let same : map (λ s. s.now) c.as_slice.result.now ≡ words = ap (λ ss. map (λ s. s.now) ss) c.as_slice.ensures.value ∙ some.0 in
    subst (AllByRecursion IsUtf8) (sym same) some.1

pub returns-in-Some-clause-report : goal.returns-in-Some-clause-report
returns-in-Some-clause-report g c =
    let words : List (List ℕ) = spelled c.args.words.now in
    let some : (map (λ s. s.now) c.in-Some.texts.items ≡ words) × AllByRecursion IsUtf8 words =
    subst (λ f. MatchOption f (¬ (AllByRecursion IsUtf8 words)) (λ texts. (map (λ s. s.now) texts.items ≡ words) × AllByRecursion IsUtf8 words)) c.in-Some.is c.in_ok-found.ensures in
    let same : map (λ s. s.now) c.as_slice.result.now ≡ words = ap (λ ss. map (λ s. s.now) ss) c.as_slice.ensures.value ∙ some.0 in
    IfOk-weaker c.report_texts.result _ _
    (λ r told. subst (λ (ws : List (List ℕ)). Reports ws (g.F.Files.contents c.args.files.now) (AreReads (g.F.Files.transcript c.args.files.now) (g.F.Files.transcript c.report_texts.new.files)) (written r)) same told)
    c.report_texts.ensures.report

pub returns-in-None-clause-report : goal.returns-in-None-clause-report
returns-in-None-clause-report g c =
    let words : List (List ℕ) = spelled c.args.words.now in
    let none : ¬ (AllByRecursion IsUtf8 words) =
    subst (λ f. MatchOption f (¬ (AllByRecursion IsUtf8 words)) (λ texts. (map (λ s. s.now) texts.items ≡ words) × AllByRecursion IsUtf8 words)) c.in-None.is c.in_ok-found.ensures in
    IfOk-weaker c.usage.result _ _
    (λ r same. subst (Reports words (g.F.Files.contents c.args.files.now) (AreReads (g.F.Files.transcript c.args.files.now) (g.F.Files.transcript c.args.files.now))) (sym same) (no_form (no_reads (g.F.Files.transcript c.args.files.now)) (no_text words none)))
    c.usage.ensures
