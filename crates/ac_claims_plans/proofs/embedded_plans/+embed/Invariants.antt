use Rattle.std.proofs.Common.{take}
use Rattle.ac_claims_plans.specs.PlanAcceptance.{AreMoved}
use Rattle.ac_claims_plans.proofs.embedded_plans.+embed.Given as goal

abbrev pub invariant-embedded_kids-loop-tree : goal.invariant-embedded_kids-loop-tree
invariant-embedded_kids-loop-tree l = AreMoved l.embedding (take l.tree-index l.trees) l.plans.items
