use Rattle.ac_claims_plans.proofs.Stepping.{branches_follow}
use Rattle.ac_claims_plans.proofs.question_laws.branches_follow.Goals as goal

pub returns : goal.returns
returns c = branches_follow
