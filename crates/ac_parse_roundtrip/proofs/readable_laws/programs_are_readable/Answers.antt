use Rattle.ac_parse_roundtrip.proofs.ReadablePrograms.{programs_are_readable}
use Rattle.ac_parse_roundtrip.proofs.readable_laws.programs_are_readable.Goals as goal

pub returns : goal.returns
returns c = programs_are_readable
