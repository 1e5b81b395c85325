use Rattle.ac_report.proofs.Lists.{EntriesHalfway}
use Rattle.ac_report.proofs.entries.push_entries.Given as goal

abbrev pub invariant-loop-number : goal.invariant-loop-number
invariant-loop-number l = EntriesHalfway l.layout l.entries l.fn.bytes.items l.bytes.items l.number
