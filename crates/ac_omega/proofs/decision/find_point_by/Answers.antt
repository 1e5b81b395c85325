use Rattle.ac_omega.proofs.DifferenceStops.{differences-halt}
use Rattle.ac_omega.proofs.Finding.{gone-none}
use Rattle.ac_omega.proofs.decision.find_point_by.Goals as goal

pub returns-in-Ok-Empty-clause-empty : goal.returns-in-Ok-Empty-clause-empty
returns-in-Ok-Empty-clause-empty c = gone-none c.args.strategy c.args.budget c.args.conj.now c.in-Ok-Empty.field-0-0 c.in-Ok-Empty.maxima c.requires (rw c.in-Ok-Empty.field-0-is at c.in-Ok-Empty.ensures.exact)

pub returns-clause-differences : goal.returns-clause-differences
returns-clause-differences c = λ few are. differences-halt c.args.strategy c.handed_back.result c.in-Err.halt c.args.conj.now c.args.budget c.requires c.handed_back.ensures c.in-Err.ensures.exact few are
