use Rattle.std.proofs.Common.{◌≡◌, ap₂, ◌∙◌}
use Rattle.std.proofs.lemmas.Result.{IfOk-weaker}
use Rattle.clap.specs.Words.{App, app_of, with_subcommand}
use Rattle.ac_cli_args.specs.CommandLine as spec
use Rattle.ac_cli_args.proofs.line.first_commands.Goals as goal

pub returns : goal.returns
returns c =
    let one : App = with_subcommand spec.bare_line spec.prove_line in
    let two : App = with_subcommand one spec.check_line in
    let three : App = with_subcommand two spec.instance_line in
    let four : App = with_subcommand three spec.flow_line in
    let one_is : app_of c.in_ok-subcommand.field-0 ≡ one = c.in_ok-subcommand.ensures.shape c.in_ok-prove.ensures.own ∙ ap₂ with_subcommand c.bare_line.ensures c.in_ok-prove.ensures.shape in
    let two_is : app_of c.in_ok-line.line ≡ two = c.in_ok-line.ensures.shape c.in_ok-check.ensures.own ∙ ap₂ with_subcommand one_is c.in_ok-check.ensures.shape in
    let three_is : app_of c.in_ok-subcommand-2.field-0 ≡ three = c.in_ok-subcommand-2.ensures.shape c.in_ok-instance.ensures.own ∙ ap₂ with_subcommand two_is c.in_ok-instance.ensures.shape in
    let four_is : app_of c.in_ok-line-2.line ≡ four = c.in_ok-line-2.ensures.shape c.in_ok-flow.ensures.own ∙ ap₂ with_subcommand three_is c.in_ok-flow.ensures.shape in
    IfOk-weaker c.subcommand-5.result _ _ (λ r h. h.shape c.in_ok-pair.ensures.own ∙ ap₂ with_subcommand four_is c.in_ok-pair.ensures.shape) c.subcommand-5.ensures
