use Rattle.ac_walk.proofs.walking.turn_plans.Goals as goal

pub returns-in_ok-growth-in-Broken-clause-turn : goal.returns-in_ok-growth-in-Broken-clause-turn
returns-in_ok-growth-in-Broken-clause-turn c = c.turn_of.ensures c.args.search.now c.args.order.now c.in_ok-growth-in-Broken.ensures.known c.in_ok-growth-in-Broken.ensures.mismatch
