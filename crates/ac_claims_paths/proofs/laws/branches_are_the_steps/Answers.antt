use Rattle.ac_claims_paths.proofs.Stepping.{branches_and_steps}
use Rattle.ac_claims_paths.proofs.laws.branches_are_the_steps.Goals as goal

pub returns : goal.returns
returns c = branches_and_steps
