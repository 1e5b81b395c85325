use Rattle.ac_walk.proofs.Stopping.{stopped_proofs_match}
use Rattle.ac_walk.proofs.match_laws.stopped_proofs_match.Goals as goal

pub returns : goal.returns
returns c = stopped_proofs_match
