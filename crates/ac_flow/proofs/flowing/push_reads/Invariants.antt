use Rattle.ac_flow.proofs.FlowSteps.{NodesSoFar}
use Rattle.ac_flow.proofs.flowing.push_reads.Given as goal

abbrev pub invariant-loop-k : goal.invariant-loop-k
invariant-loop-k l = NodesSoFar l.m l.assignment.number l.assignment.stmt.now l.nodes l.fn.out l.k l.out
