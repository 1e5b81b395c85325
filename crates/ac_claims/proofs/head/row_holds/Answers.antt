use Rattle.ac_claims.proofs.HeadSteps.{row_is}
use Rattle.ac_claims.proofs.head.row_holds.Goals as goal

pub returns-in-Ok : goal.returns-in-Ok
returns-in-Ok c = row_is c.args.row.now c.args.point.now c.in-Ok.holds c.in-Ok.ensures.0 c.in-Ok.ensures.1
