use Rattle.ac_prooftext_lines.proofs.NodeArms.{no_hit}
use Rattle.ac_prooftext_lines.proofs.nodes.hit_item.Goals as goal

pub returns-in_default : goal.returns-in_default
returns-in_default c = no_hit c.args.words.now c.in_default.ensures
