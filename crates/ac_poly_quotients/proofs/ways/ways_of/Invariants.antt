use Rattle.ac_poly_quotients.proofs.Making.{WaysMade}
use Rattle.ac_poly_quotients.proofs.ways.ways_of.Given as goal

abbrev pub invariant-loop-part : goal.invariant-loop-part
invariant-loop-part l = WaysMade l.scope l.iters l.parts l.part-index l.made
