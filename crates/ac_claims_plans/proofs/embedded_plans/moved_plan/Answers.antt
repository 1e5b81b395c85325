use Rattle.ac_claims_plans.proofs.Moving.{moved_result}
use Rattle.ac_claims_plans.proofs.embedded_plans.moved_plan.Goals as goal

pub returns-clause-serves : goal.returns-clause-serves
returns-clause-serves c = moved_result c.embedded.result c.args.embedding.now c.args.tree.now c.embedded.ensures
