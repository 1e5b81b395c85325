use Rattle.ac_claims_plans.proofs.Going.{go-accepted}
use Rattle.ac_claims_plans.proofs.Stepping.{go-serves}
use Rattle.ac_claims_plans.proofs.steps.step_plan.Goals as goal

pub returns-clause-follows : goal.returns-clause-follows
returns-clause-follows c = λ g hl hr cs s q bs formed is each.
    go-serves g hl hr cs c.args.order s q bs c.args.cases.items c.plan_of.result formed is each (λ h hs. go-accepted g cs c.plan_of.result c.args.order c.args.cases h hs c.plan_of.ensures.steps c.plan_of.ensures.next)
