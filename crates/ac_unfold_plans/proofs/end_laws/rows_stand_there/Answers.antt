use Rattle.ac_unfold_plans.proofs.Branched.{branched_fit}
use Rattle.ac_unfold_plans.proofs.Carrying.{standing_along, rows_there}
use Rattle.ac_unfold_plans.proofs.end_laws.rows_stand_there.Goals as goal

pub returns-clause-standing : goal.returns-clause-standing
returns-clause-standing c = standing_along

pub returns-clause-there : goal.returns-clause-there
returns-clause-there c = rows_there

pub returns-clause-branched : goal.returns-clause-branched
returns-clause-branched c = branched_fit
