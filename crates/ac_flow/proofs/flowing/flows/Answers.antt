use Rattle.ac_claims_paths.proofs.Branches.{in_left, in_right}
use Rattle.ac_flow.specs.Readers.{reads_of_all, outputs_from, readers}
use Rattle.ac_flow.proofs.FlowSteps.{stops_more, flows_of}
use Rattle.ac_flow.proofs.flowing.flows.Goals as goal

pub returns-in-Err-clause-stops : goal.returns-in-Err-clause-stops
returns-in-Err-clause-stops c =
    let m = c.args.m.now in
    stops_more c.args.budget m (reads_of_all 0 m.stmts) (readers m) c.in-Err.stop (λ r k. in_left r (reads_of_all 0 m.stmts) (outputs_from m 0 m.extents) k) c.in-Err.ensures.stops

pub returns-in-Err-push_outputs-clause-stops : goal.returns-in-Err-push_outputs-clause-stops
returns-in-Err-push_outputs-clause-stops c =
    let m = c.args.m.now in
    stops_more c.args.budget m (outputs_from m 0 m.extents) (readers m) c.in-Err-push_outputs.stop (λ r k. in_right r (reads_of_all 0 m.stmts) (outputs_from m 0 m.extents) k) c.in-Err-push_outputs.ensures.stops

pub returns-in-Ok-push_outputs-clause-flows : goal.returns-in-Ok-push_outputs-clause-flows
returns-in-Ok-push_outputs-clause-flows c =
    flows_of c.args.m.now (reads_of_all 0 c.args.m.now.stmts) (outputs_from c.args.m.now 0 c.args.m.now.extents) c.new-out.result c.push_all_reads.new.out c.push_outputs.new.out c.new-out.ensures c.in-Ok.ensures.grows c.in-Ok-push_outputs.ensures.grows
