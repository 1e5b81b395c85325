use Rattle.ac_walk_state.proofs.Standing.{key_stays}
use Rattle.ac_walk_state.proofs.recurrence_pair_laws.widening_points_stay.Goals as goal

pub returns : goal.returns
returns c = key_stays
