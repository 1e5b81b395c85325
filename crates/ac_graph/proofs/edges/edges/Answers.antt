use Rattle.std.proofs.Common.{rules, [], subst, List}
use Rattle.ac_flow.specs.declared.types.Case.{Case}
use Rattle.ac_graph.specs.Reachability.{IsMore, IsEdgeOf}
use Rattle.ac_graph.proofs.PlaceSteps.{read_step, edges_made}
use Rattle.ac_graph.proofs.edges.edges.Goals as goal

pub loop-read-preserved : goal.loop-read-preserved
loop-read-preserved c =
    read_step c.as_slice-reads.result.now c.loop-read.read-index c.read-item.result [] c.loop-read.out c.push_edges.new.out c.loop-read.invariant c.loop-read-test.true c.read-item.is
    (subst (λ (cs : List Case). IsMore (IsEdgeOf c.read-item.result.position cs) c.loop-read.out c.push_edges.new.out) c.as_slice.ensures c.in_ok-push_edges.ensures)

pub returns : goal.returns
returns c = edges_made c.args.flow.now c.loop-read.read-index c.as_slice-reads.result.now c.loop-read.out c.as_slice-reads.ensures c.loop-read.invariant (search rules)
