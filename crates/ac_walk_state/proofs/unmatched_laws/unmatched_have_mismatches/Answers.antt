use Rattle.ac_walk_state.proofs.Orders.{unmatched_have_mismatches}
use Rattle.ac_walk_state.proofs.unmatched_laws.unmatched_have_mismatches.Goals as goal

pub returns : goal.returns
returns c = unmatched_have_mismatches
