use Rattle.std.proofs.Common.{rules}
use Rattle.ac_prooftext_lines.proofs.NodeArms.{no_initial}
use Rattle.ac_prooftext_lines.proofs.nodes.initial_item.Goals as goal

pub returns-else-is_done : goal.returns-else-is_done
returns-else-is_done c = no_initial c.args.words.now (search rules)
