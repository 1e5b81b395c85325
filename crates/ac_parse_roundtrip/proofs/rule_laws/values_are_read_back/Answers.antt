use Rattle.ac_parse_exprs.specs.Values.{reading}
use Rattle.ac_parse_roundtrip.proofs.ValueRoundTrip.{value_read, read_broken, read_value}
use Rattle.ac_parse_roundtrip.proofs.rule_laws.values_are_read_back.Goals as goal

pub returns : goal.returns
returns c = λ names scope written v fit tree t.
    let r = value_read names scope written v tree fit t in
    (read_broken (reading names scope tree) v r, read_value scope (reading names scope tree) v r)
