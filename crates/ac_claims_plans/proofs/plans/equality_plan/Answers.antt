use Rattle.ac_claims_plans.proofs.Makers.{eq_made}
use Rattle.ac_claims_plans.proofs.Branched.{eq_branches}
use Rattle.ac_claims_plans.proofs.plans.equality_plan.Goals as goal

pub returns-clause-accepted : goal.returns-clause-accepted
returns-clause-accepted c =
    eq_made c.args.form c.in_ok-turned.turned c.args.count c.in_ok-steps.steps c.args.inside c.in_ok-equal.equal c.in_ok-low.low c.args.above c.args.below c.in_ok-made.made
    c.see_form.ensures c.in_ok-steps.ensures c.in_ok-turned.ensures c.in_ok-equal.ensures.accepted c.in_ok-low.ensures.accepted c.in_ok-made.ensures.accepted

pub returns-clause-branches : goal.returns-clause-branches
returns-clause-branches c =
    eq_branches c.args.inside c.in_ok-equal.equal c.in_ok-low.low c.args.above c.args.below c.in_ok-made.made c.in_ok-equal.ensures.branches c.in_ok-low.ensures.branches c.in_ok-made.ensures.branches
