use Rattle.std.proofs.Common.{map}
use Rattle.ac_claims_paths.specs.BranchPaths.{onto}
use Rattle.ac_claims_paths.specs.PathSteps.{case_path}
use Rattle.ac_claims_paths.proofs.AddSteps.{AtLevel}
use Rattle.ac_claims_paths.proofs.going.add_levels.Given as goal

abbrev pub invariant-loop-level : goal.invariant-loop-level
invariant-loop-level l = AtLevel (case_path l.fn.step.params l.fn.step.path.now l.fn.step.side l.fn.step.cell.now l.fn.u l.fn.stmt l.fn.piece) l.levels (map (onto l.fn.step.path.now) l.fn.out) (map (onto l.fn.step.path.now) l.out) l.level-index
