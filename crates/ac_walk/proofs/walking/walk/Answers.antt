use Rattle.ac_walk.proofs.Rounds.{first_known}
use Rattle.ac_walk.proofs.walking.walk.Goals as goal

pub loop-turn-init : goal.loop-turn-init
loop-turn-init c = first_known c.args.search.now c.args.order.now c.in_ok-known.known c.requires c.in_ok-known.ensures.entries c.in_ok-known.ensures.pairs c.in_ok-known.ensures.known
