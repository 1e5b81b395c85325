use Rattle.std.proofs.Common.{rules}
use Rattle.ac_prooftext_lines.proofs.HeadArms.{no_left}
use Rattle.ac_prooftext_lines.proofs.head.left_item.Goals as goal

pub returns-in_default : goal.returns-in_default
returns-in_default c = no_left c.args.words.now (search rules)
