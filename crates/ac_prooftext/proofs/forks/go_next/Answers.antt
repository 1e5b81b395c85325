use Rattle.ac_prooftext.proofs.Joining.{go_is}
use Rattle.ac_prooftext.proofs.forks.go_next.Goals as goal

pub returns : goal.returns
returns c = go_is c.args.order c.into_vec.result c.args.children c.into_vec.ensures
