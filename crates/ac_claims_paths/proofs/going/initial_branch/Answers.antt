use Rattle.ac_claims_paths.specs.BranchPaths.{onto}
use Rattle.ac_claims_paths.proofs.CallLoops.{initial_made}
use Rattle.ac_claims_paths.proofs.going.initial_branch.Goals as goal

pub returns : goal.returns
returns c = initial_made c.args.path.now c.args.side c.seat_of-reader.result c.initial_of-position.result c.new.result (onto c.args.path.now c.gone_to.result) c.seat_of-reader.ensures c.initial_of-position.ensures c.new.ensures c.gone_to.ensures
