use Rattle.ac_cert.proofs.Equations.{rows-of_each_rule}
use Rattle.ac_cert.proofs.laws.rows_of_each_rule.Goals as goal

pub returns : goal.returns
returns c = rows-of_each_rule c.args.conj.now
