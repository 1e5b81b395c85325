use Rattle.ac_poly.proofs.Subtracting.{Subtracting}
use Rattle.ac_poly.proofs.cells.differences.Given as goal

abbrev pub invariant-loop-column : goal.invariant-loop-column
invariant-loop-column l = Subtracting l.a.coefs l.b.coefs l.coefs.items l.column
