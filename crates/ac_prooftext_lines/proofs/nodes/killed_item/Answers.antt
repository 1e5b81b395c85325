use Rattle.ac_prooftext_lines.proofs.NodeArms.{no_killed}
use Rattle.ac_prooftext_lines.proofs.nodes.killed_item.Goals as goal

pub returns-in_default : goal.returns-in_default
returns-in_default c = no_killed c.args.words.now c.in_default.ensures
