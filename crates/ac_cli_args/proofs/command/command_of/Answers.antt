use Rattle.std.proofs.Common.{◌≡◌, [], List, map, true, Some, sym, ap, ◌∙◌}
use Rattle.std.proofs.lemmas.Result.{IfOk-weaker}
use Rattle.clap.specs.Words.{Text, app_of, fault_of, found_of, is_simple, is_simple_and_free, rows_of, subcommand_of}
use Rattle.ac_cli_args.specs.CommandLine.{command_line}
use Rattle.ac_cli_args.proofs.Parsing.{is_plain, has_plain, has_fault, met_is, asked_from}
use Rattle.ac_cli_args.proofs.command.command_of.Goals as goal

pub returns-in-Err : goal.returns-in-Err
returns-in-Err c = λ asked h.
    let line : app_of c.in_ok-line.line ≡ command_line = c.in_ok-line.ensures in
    let words : List Text = map (λ s. s.now) c.args.texts.now in
    let plain : is_simple_and_free (app_of c.in_ok-line.line) ≡ true = ap is_simple_and_free line ∙ is_plain in
    has_fault (fault_of (app_of c.in_ok-line.line) words) c.in-Err.error (c.in-Err.ensures.kinds plain) c.in_ok-check_memory-in-Err.ensures
    (ap (λ a. fault_of a words) line ∙ h.taken)

pub returns-in-Some : goal.returns-in-Some
returns-in-Some c =
    let line : app_of c.in_ok-line.line ≡ command_line = c.in_ok-line.ensures in
    let words : List Text = map (λ s. s.now) c.args.texts.now in
    let name = c.in-Some.name.now in
    let rows = rows_of (found_of c.in-Some.inner.now) in
    let plain : is_simple_and_free (app_of c.in_ok-line.line) ≡ true = ap is_simple_and_free line ∙ is_plain in
    let taken : fault_of command_line words ≡ [] = sym (ap (λ a. fault_of a words) line) ∙ c.in-Ok.ensures.kinds plain in
    let matches = c.in-Ok.ensures.matches (ap is_simple line ∙ has_plain) in
    let met : subcommand_of command_line words ≡ Some (name, rows) =
    sym (matches.1 ∙ ap (λ a. subcommand_of a words) line) ∙ met_is c.in-Ok.found name rows (sym c.in-Some.ensures.name) (sym c.in-Some.ensures.rows)
    in
    IfOk-weaker c.asked_in.result _ _ (λ r h. asked_from words name rows taken met r h) c.asked_in.ensures
