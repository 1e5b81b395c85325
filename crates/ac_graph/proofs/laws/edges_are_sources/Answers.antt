use Rattle.ac_graph.proofs.Resolving.{edges_are_sources}
use Rattle.ac_graph.proofs.laws.edges_are_sources.Goals as goal

pub returns : goal.returns
returns c = edges_are_sources
