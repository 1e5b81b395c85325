use Rattle.std.proofs.Common.{ℕ, List, map, Option, MatchOption, refl, sym, subst}
use Rattle.std.proofs.lemmas.Result.{IfOk-weaker}
use Rattle.ac_cli_args.specs.Commands.{asked_by, HasForm, IsCommand}
use Rattle.ac_cli_args.specs.declared.command.Command.{Command}
use Rattle.ac_cli_args.proofs.Forms.{in_range, command_from}
use Rattle.ac_top.specs.ProgramAnswers.{Reports, no_form, of_command}
use Rattle.ac_top.specs.Reads.{AreReads}
use Rattle.ac_top.specs.RunStages.{written}
use Rattle.ac_top.proofs.Reading.{no_reads}
use Rattle.ac_top.proofs.program.report_texts.Goals as goal

-- what was found of these words
abbrev Told : List (List ℕ) → Option Command → Type 0
Told words found = MatchOption found (¬ (HasForm words)) (λ k. IsCommand words (asked_by k))

pub report_command-requires : goal.report_command-requires
report_command-requires g c =
    let words : List (List ℕ) = map (λ s. s.now) c.args.texts.now in
    let told : Told words c.in_ok-found.found = command_from words words refl c.requires c.in_ok-found.found c.in_ok-found.ensures in
    let is : IsCommand words (asked_by c.in-Some.command) = subst (Told words) c.in-Some.is told in
    in_range words (asked_by c.in-Some.command) is

pub returns-in-Some-clause-report : goal.returns-in-Some-clause-report
returns-in-Some-clause-report g c =
    let words : List (List ℕ) = map (λ s. s.now) c.args.texts.now in
    let told : Told words c.in_ok-found.found = command_from words words refl c.requires c.in_ok-found.found c.in_ok-found.ensures in
    let is : IsCommand words (asked_by c.in-Some.command) = subst (Told words) c.in-Some.is told in
    IfOk-weaker c.report_command.result _ _ (λ r told_of. of_command (asked_by c.in-Some.command) (written r) is told_of) c.report_command.ensures.report

pub returns-in-None-clause-report : goal.returns-in-None-clause-report
returns-in-None-clause-report g c =
    let words : List (List ℕ) = map (λ s. s.now) c.args.texts.now in
    let told : Told words c.in_ok-found.found = command_from words words refl c.requires c.in_ok-found.found c.in_ok-found.ensures in
    let none : ¬ (HasForm words) = subst (Told words) c.in-None.is told in
    IfOk-weaker c.usage.result _ _
    (λ r same. subst (Reports words (g.F.Files.contents c.args.files.now) (AreReads (g.F.Files.transcript c.args.files.now) (g.F.Files.transcript c.args.files.now))) (sym same) (no_form (no_reads (g.F.Files.transcript c.args.files.now)) none))
    c.usage.ensures
