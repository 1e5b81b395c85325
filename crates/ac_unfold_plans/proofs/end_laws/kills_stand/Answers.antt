use Rattle.ac_unfold_plans.proofs.Killing.{kills_accepted, kills_plans}
use Rattle.ac_unfold_plans.proofs.end_laws.kills_stand.Goals as goal

pub returns-clause-kill : goal.returns-clause-kill
returns-clause-kill c = kills_accepted

pub returns-clause-plan : goal.returns-clause-plan
returns-clause-plan c = kills_plans
