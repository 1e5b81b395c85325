use Rattle.ac_unfold_plans.proofs.Alike.{branches_are_alike}
use Rattle.ac_unfold_plans.proofs.branch_laws.branches_are_alike.Goals as goal

pub returns : goal.returns
returns c = branches_are_alike
