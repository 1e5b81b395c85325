use Rattle.ac_parse_roundtrip.proofs.RoundTrip.{read_back}
use Rattle.ac_parse_roundtrip.proofs.readable_laws.canonical_texts_are_read_back.Goals as goal

pub returns : goal.returns
returns c = read_back
