use Rattle.std.proofs.Common.{rules}
use Rattle.ac_graph.proofs.PlaceSteps.{case_step, case_end}
use Rattle.ac_graph.proofs.edges.push_edges.Goals as goal

pub loop-case-preserved : goal.loop-case-preserved
loop-case-preserved c = case_step c.args.position.now c.args.cases.now c.loop-case.case-index c.case-item.result c.args.out.now c.loop-case.out c.push_edge.new.out c.loop-case.invariant c.loop-case-test.true c.case-item.is c.in_ok-push_edge.ensures

pub returns : goal.returns
returns c = case_end c.args.position.now c.args.cases.now c.loop-case.case-index c.args.out.now c.loop-case.out c.loop-case.invariant (search rules)
