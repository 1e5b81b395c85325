use Rattle.ac_unfold_plans.proofs.Stopping.{branches_stop, plans_stop}
use Rattle.ac_unfold_plans.proofs.plan_stop_laws.branches_stop.Goals as goal

pub returns-clause-rows : goal.returns-clause-rows
returns-clause-rows c = branches_stop

pub returns-clause-whole : goal.returns-clause-whole
returns-clause-whole c = plans_stop
