use Rattle.ac_parse_roundtrip.proofs.StatementRoundTrip.{stmt_read}
use Rattle.ac_parse_roundtrip.proofs.rule_laws.statements_are_read_back.Goals as goal

pub returns : goal.returns
returns c = λ names scope written s fit tree t. let r = stmt_read names scope written s tree fit t in (r.none, r.same)
