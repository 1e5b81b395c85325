use Rattle.std.proofs.Common.{◌≡◌, ◌<◌, map, subst, List, length, get_or}
use Rattle.std.specs.Prelude.{Ok}
use Rattle.ac_poly.specs.declared.types.StmtModel.{StmtModel}
use Rattle.ac_claims_paths.specs.ListExtension.{Adds}
use Rattle.ac_claims_paths.specs.BranchPaths.{onto}
use Rattle.ac_claims_paths.specs.PathSteps.{cases_at}
use Rattle.ac_claims_paths.proofs.StmtSteps.{stmt_none, stmt_next}
use Rattle.ac_claims_paths.proofs.going.add_cases.Goals as goal

pub returns-then-not-branch : goal.returns-then-not-branch
returns-then-not-branch c =
    stmt_none c.args.step.now.params c.args.step.now.model.now c.args.step.now.path.now c.args.step.now.side c.args.step.now.cell.now c.args.step.now.model.now.stmts (map (onto c.args.step.now.path.now) c.args.out.now) (map (onto c.args.step.now.path.now) c.loop-u.out) (map (onto c.args.step.now.path.now) c.add_stmt.new.out) c.loop-u.u c.index-stmts-u.result c.loop-u.invariant
    (subst (λ (z : List StmtModel). c.loop-u.u < length z) c.as_slice-stmts.ensures c.loop-u-test.true)
    (subst (λ (z : List StmtModel). c.index-stmts-u.result ≡ get_or z c.loop-u.u c.index-stmts-u.result) c.as_slice-stmts.ensures c.index-stmts-u.is)
    (subst (λ b. Adds (cases_at c.args.step.now.params c.args.step.now.model.now c.args.step.now.path.now c.args.step.now.side c.args.step.now.cell.now c.loop-u.u c.index-stmts-u.result) (map (onto c.args.step.now.path.now) c.loop-u.out) (map (onto c.args.step.now.path.now) c.add_stmt.new.out) (Ok b)) c.if-not-branch.true c.in_ok-add_stmt.ensures)

pub loop-u-preserved : goal.loop-u-preserved
loop-u-preserved c =
    stmt_next c.args.step.now.params c.args.step.now.model.now c.args.step.now.path.now c.args.step.now.side c.args.step.now.cell.now c.args.step.now.model.now.stmts (map (onto c.args.step.now.path.now) c.args.out.now) (map (onto c.args.step.now.path.now) c.loop-u.out) (map (onto c.args.step.now.path.now) c.add_stmt.new.out) c.loop-u.u c.index-stmts-u.result c.loop-u.invariant
    (subst (λ (z : List StmtModel). c.loop-u.u < length z) c.as_slice-stmts.ensures c.loop-u-test.true)
    (subst (λ (z : List StmtModel). c.index-stmts-u.result ≡ get_or z c.loop-u.u c.index-stmts-u.result) c.as_slice-stmts.ensures c.index-stmts-u.is)
    (subst (λ b. Adds (cases_at c.args.step.now.params c.args.step.now.model.now c.args.step.now.path.now c.args.step.now.side c.args.step.now.cell.now c.loop-u.u c.index-stmts-u.result) (map (onto c.args.step.now.path.now) c.loop-u.out) (map (onto c.args.step.now.path.now) c.add_stmt.new.out) (Ok b)) c.if-not-branch.false c.in_ok-add_stmt.ensures)
