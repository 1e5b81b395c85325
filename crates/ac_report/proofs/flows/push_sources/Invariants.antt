use Rattle.ac_report.proofs.Lists.{SourcesHalfway}
use Rattle.ac_report.proofs.flows.push_sources.Given as goal

abbrev pub invariant-loop-u : goal.invariant-loop-u
invariant-loop-u l = SourcesHalfway l.layout l.s l.cases l.fn.bytes.items l.bytes.items l.u
