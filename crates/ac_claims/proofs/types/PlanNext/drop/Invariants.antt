use Rattle.ac_claims.specs.PlanNodes.{left_over}
use Rattle.ac_claims.proofs.types.PlanNext.drop.Given as goal

abbrev pub decreases-loop-next : goal.decreases-loop-next
decreases-loop-next l = left_over l.at l.rest
