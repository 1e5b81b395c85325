use Rattle.ac_parse_roundtrip.proofs.SpelledPrograms.{spelled_program}
use Rattle.ac_parse_roundtrip.proofs.item_laws.texts_are_spelled.Goals as goal

pub returns : goal.returns
returns c = spelled_program
