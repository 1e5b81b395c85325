use Rattle.ac_omega.proofs.AllColumns.{columns-more}
use Rattle.ac_omega.proofs.decision.all_columns.Goals as goal

pub loop-z-preserved : goal.loop-z-preserved
loop-z-preserved c = columns-more _ _ c.loop-z.z c.loop-z.invariant c.in_ok-push.ensures.items
