use Rattle.ac_claims_plans.proofs.Serving.{served_have_plans, certificates_give_plans}
use Rattle.ac_claims_plans.proofs.question_laws.served_questions.Goals as goal

pub returns-clause-served : goal.returns-clause-served
returns-clause-served c = served_have_plans

pub returns-clause-certified : goal.returns-clause-certified
returns-clause-certified c = certificates_give_plans
