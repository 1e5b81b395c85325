use Rattle.ac_claims.proofs.PlanDrops.{leave_go, leave_residue}
use Rattle.ac_claims.proofs.types.PlanNext.leave.Goals as goal

pub returns-in-Residue : goal.returns-in-Residue
returns-in-Residue c = leave_residue c.enter.result c.args.self c.args.rest c.in-Residue.field-0 c.in-Residue.field-1 c.in-Residue.children c.in-Residue.is c.enter.ensures

pub returns-in-Go : goal.returns-in-Go
returns-in-Go c = leave_go c.enter-in-Go.result c.args.self c.args.rest c.in-Go.order c.in-Go.cases c.in-Go.is c.enter-in-Go.ensures
