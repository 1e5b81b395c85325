use Rattle.ac_claims_plans.proofs.Selves.{itself_result}
use Rattle.ac_claims_plans.proofs.embedding.Embedding.itself.Goals as goal

pub returns-clause-stands : goal.returns-clause-stands
returns-clause-stands c = itself_result c.own_places.result c.args.columns c.args.rows c.own_places.ensures
