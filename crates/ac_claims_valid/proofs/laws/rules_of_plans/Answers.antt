use Rattle.ac_claims_valid.proofs.PlanLaw.{faultless_plans_show}
use Rattle.ac_claims_valid.proofs.laws.rules_of_plans.Goals as goal

pub returns : goal.returns
returns c = faultless_plans_show
