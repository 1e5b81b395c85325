use Rattle.ac_unfold_plans.proofs.Ending.{cells_equal, cells_plans}
use Rattle.ac_unfold_plans.proofs.end_laws.initials_stand.Goals as goal

pub returns-clause-initial : goal.returns-clause-initial
returns-clause-initial c = cells_equal

pub returns-clause-plan : goal.returns-clause-plan
returns-clause-plan c = cells_plans
