use Rattle.ac_report.proofs.Lists.{ReportHalfway}
use Rattle.ac_report.proofs.verdicts.push_verdicts.Given as goal

abbrev pub invariant-loop-at : goal.invariant-loop-at
invariant-loop-at l = ReportHalfway l.layout l.outputs l.verdicts l.fn.bytes.items l.bytes.items l.at
