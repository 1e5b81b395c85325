use Rattle.ac_poly.proofs.Walks.{Halfway}
use Rattle.ac_poly.proofs.walk.+lowering.Given as goal

abbrev pub invariant-lower_all-loop-s : goal.invariant-lower_all-loop-s
invariant-lower_all-loop-s l = Halfway l.ss l.number l.scope l.fn.out l.s-index l.next l.out
