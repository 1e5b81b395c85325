use Rattle.std.proofs.Common.{arith}
use Rattle.ac_omega_exact.proofs.Covering.{covers-needed, exactly-needed}
use Rattle.ac_omega_exact.proofs.laws.needed_choices_cover.Goals as goal

pub returns-clause-covers : goal.returns-clause-covers
returns-clause-covers c = λ e p v l o k m. covers-needed e c.args.z c.args.conj.now.rows p v (omega (arith, l, c.requires)) o k m

pub returns-clause-exactly : goal.returns-clause-exactly
returns-clause-exactly c = λ e p l o k. exactly-needed e c.args.z c.args.conj.now.rows p (omega (arith, l, c.requires)) o k
