use Rattle.ac_cli_args.proofs.Forms.{in_range}
use Rattle.ac_cli_args.proofs.laws.numbers_are_in_range.Goals as goal

pub returns : goal.returns
returns c = in_range
