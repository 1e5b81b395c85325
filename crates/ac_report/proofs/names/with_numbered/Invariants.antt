use Rattle.ac_report.proofs.Lists.{Named}
use Rattle.ac_report.proofs.names.with_numbered.Given as goal

abbrev pub invariant-loop-number : goal.invariant-loop-number
invariant-loop-number l = Named l.letter l.fn.made l.made l.number
