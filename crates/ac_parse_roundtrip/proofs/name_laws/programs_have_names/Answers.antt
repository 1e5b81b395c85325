use Rattle.ac_parse_roundtrip.proofs.NamedPrograms.{programs_have_names}
use Rattle.ac_parse_roundtrip.proofs.name_laws.programs_have_names.Goals as goal

pub returns : goal.returns
returns c = programs_have_names
