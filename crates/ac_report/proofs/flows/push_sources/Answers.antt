use Rattle.ac_report.proofs.Lists.{sources_next}
use Rattle.ac_report.proofs.flows.push_sources.Goals as goal

pub loop-u-preserved : goal.loop-u-preserved
loop-u-preserved c = sources_next c.args.layout.now c.args.s c.args.cases.now c.args.bytes.now.items c.loop-u.bytes.items c.push_source.new.bytes.items c.loop-u.u c.loop-u.invariant c.in_ok-push_source.ensures
