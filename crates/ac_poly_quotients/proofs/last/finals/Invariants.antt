use Rattle.ac_poly_quotients.proofs.LastSteps.{Moving}
use Rattle.ac_poly_quotients.proofs.last.finals.Given as goal

abbrev pub invariant-loop-column : goal.invariant-loop-column
invariant-loop-column l = Moving l.ks l.columns l.column-index l.made
