use Rattle.ac_claims.proofs.OutputSteps.{given_if}
use Rattle.ac_claims.proofs.outputs.asks_within.Goals as goal

pub all_stand_among-requires-clause-given : goal.all_stand_among-requires-clause-given
all_stand_among-requires-clause-given c = given_if c.args.programs.now c.args.claim.now c.args.left.now c.args.right.now c.in_ok-given.given c.in_ok-given.ensures c.requires.ready c.requires.left c.requires.right
