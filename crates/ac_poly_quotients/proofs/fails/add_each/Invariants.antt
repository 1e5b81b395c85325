use Rattle.ac_poly_quotients.proofs.Failing.{EachMade}
use Rattle.ac_poly_quotients.proofs.fails.add_each.Given as goal

abbrev pub invariant-loop-row : goal.invariant-loop-row
invariant-loop-row l = EachMade l.piece l.rows l.fn.made l.row-index l.made
