use Rattle.ac_unfold_plans.proofs.Heeding.{certificates_use_tabled}
use Rattle.ac_unfold_plans.proofs.tabled_use_laws.certificates_use_tabled.Goals as goal

pub returns : goal.returns
returns c = certificates_use_tabled
