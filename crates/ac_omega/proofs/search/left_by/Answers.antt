use Rattle.ac_omega.proofs.Searches.{after-normal}
use Rattle.ac_omega.proofs.search.left_by.Goals as goal

pub returns-in-Ok-clause-columns : goal.returns-in-Ok-clause-columns
returns-in-Ok-clause-columns c = (after-normal c.args.choice.now c.args.conj.now c.in-Ok.rest c.in-Ok.ensures.exact.1).0

pub returns-in-Ok-clause-normal : goal.returns-in-Ok-clause-normal
returns-in-Ok-clause-normal c = (after-normal c.args.choice.now c.args.conj.now c.in-Ok.rest c.in-Ok.ensures.exact.1).1
