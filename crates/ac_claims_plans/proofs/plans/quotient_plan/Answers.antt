use Rattle.ac_claims_plans.proofs.Makers.{div_made}
use Rattle.ac_claims_plans.proofs.Branched.{div_branches}
use Rattle.ac_claims_plans.proofs.plans.quotient_plan.Goals as goal

pub returns-clause-accepted : goal.returns-clause-accepted
returns-clause-accepted c =
    div_made c.args.modulus.now c.args.form c.in_ok-high.high c.args.columns c.args.count c.in_ok-steps.steps c.in_ok-floor.floor c.args.inside c.in_ok-divided.divided c.in_ok-both.both c.args.outside c.in_ok-made.made
    c.quotient_form.ensures.modulus c.see_form.ensures c.in_ok-steps.ensures c.in_ok-high.ensures.value c.in_ok-floor.ensures c.in_ok-divided.ensures.accepted c.in_ok-both.ensures.accepted c.in_ok-made.ensures.accepted

pub returns-clause-branches : goal.returns-clause-branches
returns-clause-branches c =
    div_branches c.args.inside c.in_ok-divided.divided c.in_ok-both.both c.args.outside c.in_ok-made.made c.in_ok-divided.ensures.branches c.in_ok-both.ensures.branches c.in_ok-made.ensures.branches
