use Rattle.ac_unfold_plans.proofs.Stopping.{certificates_stop}
use Rattle.ac_unfold_plans.proofs.plan_stop_laws.certificates_stop.Goals as goal

pub returns : goal.returns
returns c = certificates_stop
