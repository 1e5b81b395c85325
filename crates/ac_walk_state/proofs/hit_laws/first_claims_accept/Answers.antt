use Rattle.ac_walk_state.proofs.First.{first_claims_accept}
use Rattle.ac_walk_state.proofs.hit_laws.first_claims_accept.Goals as goal

pub returns : goal.returns
returns c = first_claims_accept
