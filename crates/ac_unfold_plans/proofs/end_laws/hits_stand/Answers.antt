use Rattle.ac_unfold_plans.proofs.Ending.{claims_hit, hits_plans}
use Rattle.ac_unfold_plans.proofs.end_laws.hits_stand.Goals as goal

pub returns-clause-hit : goal.returns-clause-hit
returns-clause-hit c = claims_hit

pub returns-clause-plan : goal.returns-clause-plan
returns-clause-plan c = hits_plans
