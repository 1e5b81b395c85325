use Rattle.ac_parse_roundtrip.proofs.QuotientRoundTrip.{forms_are_read_back}
use Rattle.ac_parse_roundtrip.proofs.rule_laws.forms_are_read_back.Goals as goal

pub returns : goal.returns
returns c = forms_are_read_back
