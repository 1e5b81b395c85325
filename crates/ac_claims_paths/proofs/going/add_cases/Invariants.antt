use Rattle.std.proofs.Common.{map}
use Rattle.ac_claims_paths.specs.BranchPaths.{onto}
use Rattle.ac_claims_paths.proofs.StmtSteps.{AtStmt}
use Rattle.ac_claims_paths.proofs.going.add_cases.Given as goal

abbrev pub invariant-loop-u : goal.invariant-loop-u
invariant-loop-u l = AtStmt l.fn.step.params l.fn.step.model.now l.fn.step.path.now l.fn.step.side l.fn.step.cell.now l.fn.step.model.now.stmts (map (onto l.fn.step.path.now) l.fn.out) (map (onto l.fn.step.path.now) l.out) l.u
