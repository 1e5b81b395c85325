use Rattle.ac_graph.proofs.Stepping.{steps_are_moves}
use Rattle.ac_graph.proofs.laws.steps_are_moves.Goals as goal

pub returns : goal.returns
returns c = steps_are_moves
