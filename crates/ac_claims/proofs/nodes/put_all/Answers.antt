use Rattle.ac_claims.proofs.NodeSteps.{put_next, put_end}
use Rattle.ac_claims.proofs.nodes.put_all.Goals as goal

pub loop-plan-preserved : goal.loop-plan-preserved
loop-plan-preserved c =
    put_next c.args.plans.now c.loop-plan.rest.now c.in-Some.before.now c.args.left.now.items c.loop-plan.left.items c.push.new.self.items c.in-Some.plan c.loop-plan.invariant c.in-Some.ensures.cases.0 c.in_ok-push.ensures.items

pub returns : goal.returns
returns c = put_end c.args.plans.now c.loop-plan.rest.now c.args.left.now.items c.loop-plan.left.items c.loop-plan.invariant c.in_default.ensures.cases
