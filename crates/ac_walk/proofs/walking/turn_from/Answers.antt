use Rattle.ac_walk.proofs.walking.turn_from.Goals as goal

pub returns-clause-turn : goal.returns-clause-turn
returns-clause-turn c = c.turn_of.ensures c.args.search.now c.args.order.now c.in_ok-growth.ensures.known c.in_ok-growth.ensures.mismatch
