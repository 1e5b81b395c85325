use Rattle.std.proofs.Common.{rules}
use Rattle.ac_prooftext_lines.proofs.HeadArms.{no_point}
use Rattle.ac_prooftext_lines.proofs.head.point_item.Goals as goal

pub returns-in_default : goal.returns-in_default
returns-in_default c = no_point c.args.words.now (search rules)
