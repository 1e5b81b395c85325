use Rattle.ac_claims_plans.specs.Embeddings.{with_places}
use Rattle.ac_claims_plans.proofs.BranchPlans.{for_classes}
use Rattle.ac_claims_plans.proofs.plans.on_classes.Goals as goal

pub returns-clause-serves : goal.returns-clause-serves
returns-clause-serves c = λ places.
    for_classes (with_places c.args.embedding.now places) c.args.modulus.now c.args.form.now c.in_ok-form.form c.args.inside c.in_ok-made.made c.args.outside.items c.requires c.in_ok-form.ensures c.see_form.ensures c.in_ok-made.ensures.accepted

pub returns-clause-branches : goal.returns-clause-branches
returns-clause-branches c = c.in_ok-made.ensures.branches
