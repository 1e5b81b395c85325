use Rattle.ac_unfold_plans.proofs.Heeding.{steps_use_tabled}
use Rattle.ac_unfold_plans.proofs.tabled_use_laws.steps_use_tabled.Goals as goal

pub returns : goal.returns
returns c = steps_use_tabled
