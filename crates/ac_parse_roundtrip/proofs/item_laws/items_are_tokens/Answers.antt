use Rattle.ac_parse_roundtrip.proofs.ProgramTokens.{program_tokens}
use Rattle.ac_parse_roundtrip.proofs.item_laws.items_are_tokens.Goals as goal

pub returns : goal.returns
returns c = program_tokens
