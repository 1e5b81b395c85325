use Rattle.ac_flow.proofs.WritingSteps.{AtStmt}
use Rattle.ac_flow.proofs.writings.writings.Given as goal

abbrev pub invariant-loop-u : goal.invariant-loop-u
invariant-loop-u l = AtStmt l.m l.reader l.array l.source l.m.stmts l.u l.out
