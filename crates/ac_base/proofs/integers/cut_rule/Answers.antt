use Rattle.ac_base.proofs.Floor.{cut_both}
use Rattle.ac_base.proofs.integers.cut_rule.Goals as goal

pub returns : goal.returns
returns c point = cut_both c.args.divisor c.args.coefs.now point c.args.constant c.requires.positive c.requires.divides
