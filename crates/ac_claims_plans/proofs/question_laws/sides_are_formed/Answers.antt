use Rattle.ac_claims_plans.proofs.Sides.{sides_formed}
use Rattle.ac_claims_plans.proofs.question_laws.sides_are_formed.Goals as goal

pub returns : goal.returns
returns c = sides_formed
