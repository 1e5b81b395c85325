use Rattle.ac_parse_roundtrip.proofs.TokenSpelling.{tokens_spelled}
use Rattle.ac_parse_roundtrip.proofs.name_laws.tokens_are_spelled.Goals as goal

pub returns : goal.returns
returns c = tokens_spelled
