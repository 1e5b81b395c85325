use Rattle.ac_walk_state.proofs.Outputs.{claims_made}
use Rattle.ac_walk_state.proofs.part_laws.claims_are_made.Goals as goal

pub returns : goal.returns
returns c = claims_made
