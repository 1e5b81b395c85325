use Rattle.ac_poly_quotients.proofs.Making.{Gathered}
use Rattle.ac_poly_quotients.proofs.scopes.quots_of.Given as goal

abbrev pub invariant-loop-part : goal.invariant-loop-part
invariant-loop-part l = Gathered l.parts l.part-index l.made
