use Rattle.std.proofs.Common.{List, subst}
use Rattle.ac_poly.specs.declared.types.NodeModel.{NodeModel}
use Rattle.ac_flow.specs.Readers.{reads_from, StopsAmong}
use Rattle.ac_flow.proofs.FlowSteps.{nodes_next, node_stops}
use Rattle.ac_flow.proofs.flowing.push_reads.Goals as goal

pub returns-in-Err-clause-stops : goal.returns-in-Err-clause-stops
returns-in-Err-clause-stops c =
    subst (λ (ns : List NodeModel). StopsAmong c.args.budget c.args.m.now (reads_from c.args.assignment.now.number 0 c.args.assignment.now.stmt.now ns) c.in-Err.stop) c.as_slice-nodes.ensures
    (node_stops c.args.budget c.args.m.now c.args.assignment.now.number c.args.assignment.now.stmt.now c.as_slice-nodes.result.now c.loop-k.k c.index-nodes-k.result c.in-Err.stop c.loop-k-test.true c.index-nodes-k.is c.in-Err.ensures.stops)

pub loop-k-preserved : goal.loop-k-preserved
loop-k-preserved c =
    nodes_next c.args.m.now c.args.assignment.now.number c.args.assignment.now.stmt.now c.as_slice-nodes.result.now c.args.out.now c.loop-k.out c.push_node.new.out c.loop-k.k c.index-nodes-k.result c.loop-k.invariant c.loop-k-test.true c.index-nodes-k.is c.in-Ok.ensures.grows
