use Rattle.ac_parse_rules.proofs.WrittenPrograms as written
use Rattle.ac_parse_rules.proofs.laws.programs_do_as_written.Goals as goal

pub returns : goal.returns
returns c = record { statements = written.programs_do_as_written }
