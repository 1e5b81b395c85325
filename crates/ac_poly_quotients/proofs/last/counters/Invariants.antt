use Rattle.ac_poly_quotients.proofs.LastSteps.{Counted}
use Rattle.ac_poly_quotients.proofs.last.counters.Given as goal

abbrev pub invariant-loop-column : goal.invariant-loop-column
invariant-loop-column l = Counted l.columns l.column-index l.count
