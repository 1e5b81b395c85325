use Rattle.ac_flow.proofs.Replaying.{kills_are_replayed}
use Rattle.ac_flow.proofs.laws.kills_are_replayed.Goals as goal

pub returns : goal.returns
returns c = kills_are_replayed
