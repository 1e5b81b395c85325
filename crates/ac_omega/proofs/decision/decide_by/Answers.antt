use Rattle.ac_omega.proofs.DifferenceStops.{differences-settle}
use Rattle.ac_omega.proofs.decision.decide_by.Goals as goal

pub returns-clause-differences : goal.returns-clause-differences
returns-clause-differences c = λ few are. differences-settle c.args.strategy c.settled.result c.args.conj.now c.args.budget c.requires c.settled.ensures.exact few are
