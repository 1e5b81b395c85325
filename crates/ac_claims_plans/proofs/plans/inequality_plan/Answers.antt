use Rattle.ac_claims_plans.proofs.Makers.{ge_made}
use Rattle.ac_claims_plans.proofs.plans.inequality_plan.Goals as goal

pub returns-clause-accepted : goal.returns-clause-accepted
returns-clause-accepted c = ge_made c.args.form c.args.inside c.args.below c.in_ok-made.made c.in_ok-made.ensures.accepted

pub returns-clause-branches : goal.returns-clause-branches
returns-clause-branches c = c.in_ok-made.ensures.branches
