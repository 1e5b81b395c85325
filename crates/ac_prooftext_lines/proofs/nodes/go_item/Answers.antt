use Rattle.ac_prooftext_lines.proofs.NodeArms.{no_go}
use Rattle.ac_prooftext_lines.proofs.nodes.go_item.Goals as goal

pub returns-in_default : goal.returns-in_default
returns-in_default c = no_go c.args.words.now c.in_default.ensures
