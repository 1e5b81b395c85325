use Rattle.ac_prooftext_lines.proofs.HeadArms.{no_tree}
use Rattle.ac_prooftext_lines.proofs.head.tree_item.Goals as goal

pub returns-in_default : goal.returns-in_default
returns-in_default c = no_tree c.args.words.now c.in_default.ensures
