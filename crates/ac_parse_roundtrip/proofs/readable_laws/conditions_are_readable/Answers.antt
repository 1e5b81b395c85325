use Rattle.ac_parse_roundtrip.proofs.ReadableForms.{conditions_are_readable}
use Rattle.ac_parse_roundtrip.proofs.readable_laws.conditions_are_readable.Goals as goal

pub returns : goal.returns
returns c = conditions_are_readable
