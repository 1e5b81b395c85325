use Rattle.ac_parse_roundtrip.proofs.ProgramRoundTrip as programs
use Rattle.ac_parse_roundtrip.proofs.rule_laws.programs_are_read_back.Goals as goal

pub returns : goal.returns
returns c = programs.programs_are_read_back
