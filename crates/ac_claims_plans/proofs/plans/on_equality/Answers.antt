use Rattle.ac_claims_plans.specs.Embeddings.{with_places}
use Rattle.ac_claims_plans.proofs.BranchPlans.{for_eq, popped}
use Rattle.ac_claims_plans.proofs.Branched.{last_two_branches}
use Rattle.ac_claims_plans.proofs.plans.on_equality.Goals as goal

pub returns-clause-serves : goal.returns-clause-serves
returns-clause-serves c = λ places.
    for_eq (with_places c.args.embedding.now places) c.args.form.now c.in_ok-form.form c.args.inside c.in-Some-pop.above c.in-Some.below c.in_ok-made.made c.args.outside.items c.pop.new.self.items c.pop-2.new.self.items c.in_ok-form.ensures
    (popped c.args.outside.items c.pop.new.self.items c.pop.result c.in-Some.below c.pop.ensures.items c.in-Some.is)
    (popped c.pop.new.self.items c.pop-2.new.self.items c.pop-2.result c.in-Some-pop.above c.pop-2.ensures.items c.in-Some-pop.is) c.in_ok-made.ensures.accepted

pub returns-clause-branches : goal.returns-clause-branches
returns-clause-branches c =
    last_two_branches c.args.inside c.in-Some-pop.above c.in-Some.below c.args.outside.items c.pop.new.self.items c.pop-2.new.self.items c.in_ok-made.made.next
    (popped c.args.outside.items c.pop.new.self.items c.pop.result c.in-Some.below c.pop.ensures.items c.in-Some.is)
    (popped c.pop.new.self.items c.pop-2.new.self.items c.pop-2.result c.in-Some-pop.above c.pop-2.ensures.items c.in-Some-pop.is) c.in_ok-made.ensures.branches
