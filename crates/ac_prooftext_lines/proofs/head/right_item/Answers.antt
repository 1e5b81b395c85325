use Rattle.std.proofs.Common.{rules}
use Rattle.ac_prooftext_lines.proofs.HeadArms.{no_right}
use Rattle.ac_prooftext_lines.proofs.head.right_item.Goals as goal

pub returns-in_default : goal.returns-in_default
returns-in_default c = no_right c.args.words.now (search rules)
