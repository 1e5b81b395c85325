use Rattle.ac_poly_quotients.proofs.Making.{NotedSome}
use Rattle.ac_poly_quotients.proofs.scopes.add_quots.Given as goal

abbrev pub invariant-loop-quot : goal.invariant-loop-quot
invariant-loop-quot l = NotedSome l.fn.scope l.quots l.quot-index l.scope
