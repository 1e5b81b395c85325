use Rattle.ac_claims.proofs.PlanDrops.{take_go, take_residue}
use Rattle.ac_claims.proofs.types.PlanNext.take_next.Goals as goal

pub returns-in-Residue : goal.returns-in-Residue
returns-in-Residue c = take_residue c.take_last.result c.args.self c.in-Residue.field-0 c.in-Residue.field-1 c.in-Residue.children c.in-Residue.is c.take_last.ensures

pub returns-in-Go : goal.returns-in-Go
returns-in-Go c = take_go c.take_last-in-Go.result c.args.self c.in-Go.order c.in-Go.cases c.in-Go.is c.take_last-in-Go.ensures
