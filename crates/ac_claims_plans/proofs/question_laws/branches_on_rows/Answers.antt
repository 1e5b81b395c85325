use Rattle.ac_claims_plans.proofs.Serving.{branches_give_plans}
use Rattle.ac_claims_plans.proofs.question_laws.branches_on_rows.Goals as goal

pub returns : goal.returns
returns c = branches_give_plans
