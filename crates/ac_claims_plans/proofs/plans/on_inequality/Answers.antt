use Rattle.ac_claims_plans.specs.Embeddings.{with_places}
use Rattle.ac_claims_plans.proofs.BranchPlans.{for_ge, popped}
use Rattle.ac_claims_plans.proofs.Branched.{last_branches}
use Rattle.ac_claims_plans.proofs.plans.on_inequality.Goals as goal

pub returns-clause-serves : goal.returns-clause-serves
returns-clause-serves c = λ places.
    for_ge (with_places c.args.embedding.now places) c.args.form.now c.in_ok-form.form c.args.inside c.in-Some.below c.in_ok-made.made c.args.outside.items c.pop.new.self.items c.in_ok-form.ensures
    (popped c.args.outside.items c.pop.new.self.items c.pop.result c.in-Some.below c.pop.ensures.items c.in-Some.is) c.in_ok-made.ensures.accepted

pub returns-clause-branches : goal.returns-clause-branches
returns-clause-branches c =
    last_branches c.args.inside c.in-Some.below c.args.outside.items c.pop.new.self.items c.in_ok-made.made.next
    (popped c.args.outside.items c.pop.new.self.items c.pop.result c.in-Some.below c.pop.ensures.items c.in-Some.is) c.in_ok-made.ensures.branches
