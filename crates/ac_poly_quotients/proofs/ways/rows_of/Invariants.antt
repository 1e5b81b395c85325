use Rattle.ac_poly_quotients.proofs.Making.{RowsMade}
use Rattle.ac_poly_quotients.proofs.ways.rows_of.Given as goal

abbrev pub invariant-loop-part : goal.invariant-loop-part
invariant-loop-part l = RowsMade l.scope l.iters l.parts l.part-index l.made
