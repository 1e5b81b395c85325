use Rattle.std.proofs.Common.{rules}
use Rattle.ac_prooftext_lines.proofs.NodeArms.{no_split}
use Rattle.ac_prooftext_lines.proofs.nodes.split_item.Goals as goal

pub returns-in_default : goal.returns-in_default
returns-in_default c = no_split c.args.words.now (search rules)
