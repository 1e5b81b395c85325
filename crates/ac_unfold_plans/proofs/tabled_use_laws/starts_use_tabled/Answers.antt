use Rattle.ac_unfold_plans.proofs.Heeding.{starts_use_tabled}
use Rattle.ac_unfold_plans.proofs.tabled_use_laws.starts_use_tabled.Goals as goal

pub returns : goal.returns
returns c = starts_use_tabled
