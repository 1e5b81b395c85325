use Rattle.ac_report.proofs.Lists.{ValuesHalfway}
use Rattle.ac_report.proofs.verdicts.push_further_values.Given as goal

abbrev pub invariant-loop-at : goal.invariant-loop-at
invariant-loop-at l = ValuesHalfway l.names l.values l.fn.bytes.items l.bytes.items l.at
