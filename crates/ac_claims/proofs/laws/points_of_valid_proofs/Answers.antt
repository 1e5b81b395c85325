use Rattle.ac_claims.proofs.AtPoints.{points_are_valuations}
use Rattle.ac_claims.proofs.laws.points_of_valid_proofs.Goals as goal

pub returns : goal.returns
returns c = points_are_valuations
