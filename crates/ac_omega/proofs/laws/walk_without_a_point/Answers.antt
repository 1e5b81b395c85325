use Rattle.ac_omega.specs.ColumnElimination.{elimination}
use Rattle.ac_omega.proofs.Projecting.{gone-empty}
use Rattle.ac_omega.proofs.Walks.{gone-between}
use Rattle.ac_omega.proofs.laws.walk_without_a_point.Goals as goal

pub returns-clause-empty : goal.returns-clause-empty
returns-clause-empty c = gone-empty c.args.strategy c.args.vars.now c.args.budget c.args.conj.now c.args.cost c.requires

pub returns-clause-cost : goal.returns-clause-cost
returns-clause-cost c = λ n k s t e. gone-between (elimination c.args.strategy c.args.vars.now) n c.args.budget c.args.conj.now c.args.cost s k t e
