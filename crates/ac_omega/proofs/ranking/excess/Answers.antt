use Rattle.ac_omega.proofs.Pairs.{excess-first, excess-second, excess-is}
use Rattle.ac_omega.proofs.ranking.excess.Goals as goal

pub overflow_sub-result : goal.overflow_sub-result
overflow_sub-result c = excess-first c.args.lower c.args.upper c.requires

pub overflow_sub-result-2 : goal.overflow_sub-result-2
overflow_sub-result-2 c = excess-second c.args.lower c.args.upper c.requires

pub returns : goal.returns
returns c = excess-is c.args.lower c.args.upper c.requires
