use Rattle.std.proofs.Common.{◌<◌, length, get_or, subst, arith}
use Rattle.ac_poly.specs.declared.types.StmtModel.{StmtModel}
use Rattle.std.specs.Prelude.{List, ◌≡◌}
use Rattle.ac_flow.proofs.WritingSteps.{all_next}
use Rattle.ac_flow.proofs.writings.writings.Goals as goal

pub loop-u-preserved : goal.loop-u-preserved
loop-u-preserved c =
    all_next c.args.m.now c.args.reader.now c.args.array c.args.source.now c.args.m.now.stmts c.loop-u.out c.push_stmt.new.out c.loop-u.u c.index-stmts-u.result c.loop-u.invariant
    (subst (λ (xs : List StmtModel). c.loop-u.u < length xs) c.as_slice-stmts.ensures (let l = c.loop-u-test.true in omega arith)) (subst (λ (xs : List StmtModel). c.index-stmts-u.result ≡ get_or xs c.loop-u.u c.index-stmts-u.result) c.as_slice-stmts.ensures c.index-stmts-u.is) c.in_ok-push_stmt.ensures
