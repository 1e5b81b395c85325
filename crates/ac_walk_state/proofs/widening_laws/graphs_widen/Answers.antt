use Rattle.ac_walk_state.proofs.Widening.{graphs_widen}
use Rattle.ac_walk_state.proofs.widening_laws.graphs_widen.Goals as goal

pub returns : goal.returns
returns c = graphs_widen
