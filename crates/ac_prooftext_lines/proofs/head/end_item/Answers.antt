use Rattle.std.proofs.Common.{rules}
use Rattle.ac_prooftext_lines.proofs.HeadArms.{no_end}
use Rattle.ac_prooftext_lines.proofs.head.end_item.Goals as goal

pub returns-else-is_done : goal.returns-else-is_done
returns-else-is_done c = no_end c.args.words.now (search rules)
