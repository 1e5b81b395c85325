use Rattle.ac_prooftext_lines.proofs.NodeArms.{no_absurd}
use Rattle.ac_prooftext_lines.proofs.nodes.absurd_item.Goals as goal

pub returns-in_default : goal.returns-in_default
returns-in_default c = no_absurd c.args.words.now c.in_default.ensures
