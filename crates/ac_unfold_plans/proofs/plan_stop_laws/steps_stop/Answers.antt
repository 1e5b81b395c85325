use Rattle.ac_unfold_plans.proofs.Stopping.{steps_stop}
use Rattle.ac_unfold_plans.proofs.plan_stop_laws.steps_stop.Goals as goal

pub returns : goal.returns
returns c = steps_stop
