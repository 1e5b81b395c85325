use Rattle.ac_parse_roundtrip.proofs.ConditionRoundTrip.{condition_none, condition_same}
use Rattle.ac_parse_roundtrip.proofs.rule_laws.conditions_are_read_back.Goals as goal

pub returns : goal.returns
returns c = λ names scope written cond fit trees t. (condition_none names scope written cond.parts trees fit t, condition_same names scope written cond.parts trees fit t)
