use Rattle.ac_poly_quotients.proofs.LastSteps.{Lasting}
use Rattle.ac_poly_quotients.proofs.last.final_columns.Given as goal

abbrev pub invariant-loop-column : goal.invariant-loop-column
invariant-loop-column l = Lasting l.params l.depth l.columns l.column-index l.counter l.quotient l.made
