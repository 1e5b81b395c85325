use Rattle.ac_cli_args.proofs.Determined.{one_command, one_valuation}
use Rattle.ac_cli_args.proofs.laws.words_are_determined.Goals as goal

pub returns-clause-command : goal.returns-clause-command
returns-clause-command c = one_command

pub returns-clause-valuation : goal.returns-clause-valuation
returns-clause-valuation c = one_valuation
