use Rattle.ac_claims_plans.proofs.Staying.{question-stays}
use Rattle.ac_claims_plans.proofs.embedding_laws.question_stays.Goals as goal

pub returns : goal.returns
returns c = question-stays c.args.embedding.now c.args.part.now c.requires.columns c.requires.places
