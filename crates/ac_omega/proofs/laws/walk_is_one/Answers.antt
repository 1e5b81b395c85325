use Rattle.ac_omega.specs.ColumnElimination.{elimination}
use Rattle.ac_omega.proofs.Rows.{has-rows}
use Rattle.ac_omega.proofs.Walks.{walk-enough}
use Rattle.ac_omega.proofs.laws.walk_is_one.Goals as goal

pub returns : goal.returns
unfolding elimination
returns c = λ n o s x y. walk-enough (elimination c.args.strategy c.args.vars.now) (λ d. has-rows c.args.strategy c.args.vars.now d) n o c.args.budget c.args.conj.now c.args.cost s c.requires x y
