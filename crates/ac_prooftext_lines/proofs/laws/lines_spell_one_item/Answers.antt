use Rattle.ac_prooftext_lines.proofs.Injective.{one_item}
use Rattle.ac_prooftext_lines.proofs.Plain.{one_line}
use Rattle.ac_prooftext_lines.proofs.laws.lines_spell_one_item.Goals as goal

pub returns : goal.returns
returns c = record { one = one_item; feed = one_line }
