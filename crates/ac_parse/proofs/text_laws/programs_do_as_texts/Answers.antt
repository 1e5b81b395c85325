use Rattle.ac_parse.proofs.Composing.{does_as_text}
use Rattle.ac_parse.proofs.text_laws.programs_do_as_texts.Goals as goal

pub returns : goal.returns
returns c = record { does = does_as_text }
