use Rattle.ac_flow.proofs.FlowSources.{flow_sources}
use Rattle.ac_flow.proofs.Overs.{is_over}
use Rattle.ac_flow.proofs.flowing.flow.Goals as goal

pub flows-requires : goal.flows-requires
flows-requires c = is_over c.args.m.now c.requires

pub returns-in-Ok-clause-sources : goal.returns-in-Ok-clause-sources
returns-in-Ok-clause-sources c = flow_sources c.args.m.now (record { reads = c.in-Ok.reads }) (is_over c.args.m.now c.requires) c.in-Ok.ensures.flows
