use Rattle.std.proofs.Common.{List, subst}
use Rattle.ac_poly.specs.declared.types.StmtModel.{StmtModel}
use Rattle.ac_flow.specs.Readers.{reads_of_all, StopsAmong}
use Rattle.ac_flow.proofs.FlowSteps.{stmts_next, stmt_stops}
use Rattle.ac_flow.proofs.flowing.push_all_reads.Goals as goal

pub returns-in-Err-clause-stops : goal.returns-in-Err-clause-stops
returns-in-Err-clause-stops c =
    subst (λ (qs : List StmtModel). StopsAmong c.args.budget c.args.m.now (reads_of_all 0 qs) c.in-Err.stop) c.as_slice-stmts.ensures
    (stmt_stops c.args.budget c.args.m.now c.as_slice-stmts.result.now c.loop-s.s c.index-stmts-s.result c.in-Err.stop c.loop-s-test.true c.index-stmts-s.is c.in-Err.ensures.stops)

pub loop-s-preserved : goal.loop-s-preserved
loop-s-preserved c =
    stmts_next c.args.m.now c.as_slice-stmts.result.now c.args.out.now c.loop-s.out c.push_reads.new.out c.loop-s.s c.index-stmts-s.result c.loop-s.invariant c.loop-s-test.true c.index-stmts-s.is c.in-Ok.ensures.grows
