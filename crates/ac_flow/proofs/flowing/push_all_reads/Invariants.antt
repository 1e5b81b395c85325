use Rattle.ac_flow.proofs.FlowSteps.{StmtsSoFar}
use Rattle.ac_flow.proofs.flowing.push_all_reads.Given as goal

abbrev pub invariant-loop-s : goal.invariant-loop-s
invariant-loop-s l = StmtsSoFar l.m l.stmts l.fn.out l.s l.out
