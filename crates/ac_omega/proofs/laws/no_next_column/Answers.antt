use Rattle.ac_omega.proofs.Empties.{next-none}
use Rattle.ac_omega.proofs.laws.no_next_column.Goals as goal

pub returns : goal.returns
returns c = λ rows e. next-none c.args.strategy c.args.vars.now rows e
