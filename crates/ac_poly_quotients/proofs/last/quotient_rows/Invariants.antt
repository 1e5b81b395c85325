use Rattle.ac_poly_quotients.proofs.LastSteps.{Telling}
use Rattle.ac_poly_quotients.proofs.last.quotient_rows.Given as goal

abbrev pub invariant-loop-quotient : goal.invariant-loop-quotient
invariant-loop-quotient l = Telling l.fn.first l.quots l.quotient-index l.k l.made
