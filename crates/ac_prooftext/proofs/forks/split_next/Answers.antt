use Rattle.std.proofs.Common.{rules}
use Rattle.ac_prooftext.proofs.Joining.{split_is}
use Rattle.ac_prooftext.proofs.forks.split_next.Goals as goal

pub returns : goal.returns
returns c = split_is c.args.form c.in_ok-first.first c.in_ok-second.second c.args.first c.args.second (search rules) (search rules)
