use Rattle.std.proofs.Common.{rules}
use Rattle.ac_prooftext_lines.proofs.NodeArms.{no_number}
use Rattle.ac_prooftext_lines.proofs.nodes.number_item.Goals as goal

pub returns-else-is_done : goal.returns-else-is_done
returns-else-is_done c = no_number c.args.words.now (search rules)
