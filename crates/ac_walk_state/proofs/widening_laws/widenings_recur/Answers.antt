use Rattle.ac_walk_state.proofs.Widening.{widenings_recur}
use Rattle.ac_walk_state.proofs.widening_laws.widenings_recur.Goals as goal

pub returns : goal.returns
returns c = widenings_recur
