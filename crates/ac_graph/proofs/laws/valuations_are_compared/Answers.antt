use Rattle.ac_graph.proofs.Stepping.{valuations_are_compared}
use Rattle.ac_graph.proofs.laws.valuations_are_compared.Goals as goal

pub returns : goal.returns
returns c = valuations_are_compared
