use Rattle.std.proofs.Common.{rules}
use Rattle.ac_forms.proofs.Divisions.{quotient_made}
use Rattle.ac_forms.proofs.normal.quotient_of.Goals as goal

pub returns-then-divisor-eq1 : goal.returns-then-divisor-eq1
returns-then-divisor-eq1 c = quotient_made c.args.divisor c.konst.result c.in_ok-coefs.coefs.items c.args.form.now c.trimmed.result c.ranges.divisor (search rules) c.if-divisor-eq1.true c.konst.ensures (search rules) c.trimmed.ensures
