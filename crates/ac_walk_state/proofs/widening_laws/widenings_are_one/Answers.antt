use Rattle.ac_walk_state.proofs.Widening.{widenings_are_one}
use Rattle.ac_walk_state.proofs.widening_laws.widenings_are_one.Goals as goal

pub returns : goal.returns
returns c = widenings_are_one
