use Rattle.ac_walk_state.proofs.Grown.{stays_planned, stays_stopping}
use Rattle.ac_walk_state.proofs.growing.with_claim.Goals as goal

pub returns-clause-planned : goal.returns-clause-planned
returns-clause-planned c =
    stays_planned c.args.part (record { claims = c.push.new.self; trees = c.in_ok-with_trees.field-0 }) c.args.claim c.args.trees.items c.in_ok-push.ensures.items c.in_ok-with_trees.ensures

pub returns-clause-stops : goal.returns-clause-stops
returns-clause-stops c = stays_stopping c.args.part (record { claims = c.push.new.self; trees = c.in_ok-with_trees.field-0 }) c.args.claim c.args.trees.items c.in_ok-with_trees.ensures
