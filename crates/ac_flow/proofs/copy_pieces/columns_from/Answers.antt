use Rattle.ac_flow.proofs.Projections.{ranged_step}
use Rattle.ac_flow.proofs.copy_pieces.columns_from.Goals as goal

pub loop-z-preserved : goal.loop-z-preserved
loop-z-preserved c = ranged_step c.args.first c.loop-z.z c.loop-z.vars.items c.push.new.self.items c.loop-z.invariant c.in_ok-push.ensures.items
