use Rattle.ac_claims_plans.proofs.Covering.{serve_covered, cover_themselves, sides_covered, may_stay, covered_give_plans}
use Rattle.ac_claims_plans.proofs.question_laws.question_may_stay.Goals as goal

pub returns-clause-serves : goal.returns-clause-serves
returns-clause-serves c = serve_covered

pub returns-clause-itself : goal.returns-clause-itself
returns-clause-itself c = cover_themselves

pub returns-clause-sides : goal.returns-clause-sides
returns-clause-sides c = sides_covered

pub returns-clause-stays : goal.returns-clause-stays
returns-clause-stays c = may_stay

pub returns-clause-branches : goal.returns-clause-branches
returns-clause-branches c = covered_give_plans
