use Rattle.ac_poly.proofs.Bodies.{points_are_instances}
use Rattle.ac_poly.proofs.laws.points_of_pieces.Goals as goal

pub returns : goal.returns
returns c = points_are_instances
