use Rattle.ac_claims_plans.proofs.Makers.{split_made}
use Rattle.ac_claims_plans.proofs.Branched.{split_branches}
use Rattle.ac_claims_plans.proofs.plans.split.Goals as goal

pub returns-clause-accepted : goal.returns-clause-accepted
returns-clause-accepted c = split_made c.plan_of.result c.args.form c.in_ok-first.first c.in_ok-second.second c.args.first c.args.second c.plan_of.ensures.steps c.plan_of.ensures.next c.in_ok-first.ensures.ok c.in_ok-second.ensures.ok

pub returns-clause-branches : goal.returns-clause-branches
returns-clause-branches c = split_branches c.plan_of.result c.args.form c.in_ok-first.first c.in_ok-second.second c.args.first c.args.second c.plan_of.ensures.next c.in_ok-first.ensures.ok c.in_ok-second.ensures.ok
