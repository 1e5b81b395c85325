use Rattle.ac_poly_quotients.proofs.Failing.{FailingMade}
use Rattle.ac_poly_quotients.proofs.fails.add_failing.Given as goal

abbrev pub invariant-loop-way : goal.invariant-loop-way
invariant-loop-way l = FailingMade l.ways l.piece l.fn.made l.way-index l.made l.done
