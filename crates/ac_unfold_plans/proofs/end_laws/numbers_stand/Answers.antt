use Rattle.ac_unfold_plans.proofs.Ending.{numbers_equal, numbers_plans}
use Rattle.ac_unfold_plans.proofs.end_laws.numbers_stand.Goals as goal

pub returns-clause-number : goal.returns-clause-number
returns-clause-number c = numbers_equal

pub returns-clause-plan : goal.returns-clause-plan
returns-clause-plan c = numbers_plans
