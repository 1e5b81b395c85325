use Rattle.ac_parse_rules.proofs.NumberedNames.{files_are_numbered}
use Rattle.ac_parse_rules.proofs.laws.names_are_numbered.Goals as goal

pub returns : goal.returns
returns c = record { files = files_are_numbered }
