use Rattle.ac_prooftext_lines.proofs.HeadArms.{no_output}
use Rattle.ac_prooftext_lines.proofs.head.output_item.Goals as goal

pub returns-in_default : goal.returns-in_default
returns-in_default c = no_output c.args.words.now c.in_default.ensures
