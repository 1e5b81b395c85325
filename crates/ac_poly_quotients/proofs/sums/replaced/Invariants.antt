use Rattle.ac_poly_quotients.proofs.Replacing.{Replacing}
use Rattle.ac_poly_quotients.proofs.sums.replaced.Given as goal

abbrev pub invariant-loop-i : goal.invariant-loop-i
invariant-loop-i l = Replacing l.first l.coefs l.forms l.form l.i
