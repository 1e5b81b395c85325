use Rattle.ac_walk_state.proofs.Cut.{stops_are_cut}
use Rattle.ac_walk_state.proofs.hit_laws.stops_are_cut.Goals as goal

pub returns : goal.returns
returns c = stops_are_cut
