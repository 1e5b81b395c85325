use Rattle.ac_parse_roundtrip.proofs.ReadableForms.{forms_are_readable}
use Rattle.ac_parse_roundtrip.proofs.readable_laws.forms_are_readable.Goals as goal

pub returns : goal.returns
returns c = forms_are_readable
