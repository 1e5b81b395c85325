use Rattle.ac_poly.proofs.Equating.{Equated}
use Rattle.ac_poly.proofs.order.same_cell.Given as goal

abbrev pub invariant-loop-i : goal.invariant-loop-i
invariant-loop-i l = Equated l.a l.b l.i l.rows
