use Rattle.std.proofs.Common.{◌≡◌, ap₂, ◌∙◌}
use Rattle.std.proofs.lemmas.Result.{IfOk-weaker}
use Rattle.clap.specs.Words.{App, app_of, with_subcommand}
use Rattle.ac_cli_args.specs.CommandLine as spec
use Rattle.ac_cli_args.proofs.line.command_line.Goals as goal

pub returns : goal.returns
returns c =
    let six : App = with_subcommand spec.first_commands spec.legal_line in
    let six_is : app_of c.in_ok-subcommand.field-0 ≡ six = c.in_ok-subcommand.ensures.shape c.in_ok-legal.ensures.own ∙ ap₂ with_subcommand c.in_ok-line.ensures c.in_ok-legal.ensures.shape in
    IfOk-weaker c.subcommand-2.result _ _ (λ r h. h.shape c.in_ok-chains.ensures.own ∙ ap₂ with_subcommand six_is c.in_ok-chains.ensures.shape) c.subcommand-2.ensures
