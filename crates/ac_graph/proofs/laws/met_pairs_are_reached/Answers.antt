use Rattle.ac_graph.proofs.Stepping.{met_are_reached}
use Rattle.ac_graph.proofs.laws.met_pairs_are_reached.Goals as goal

pub returns : goal.returns
returns c = met_are_reached
