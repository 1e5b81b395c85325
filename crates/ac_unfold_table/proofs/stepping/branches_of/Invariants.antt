use Rattle.std.proofs.Common.{◌≡◌, map}
use Rattle.ac_claims_paths.specs.BranchPaths.{onto}
use Rattle.ac_unfold_table.proofs.stepping.branches_of.Given as goal

abbrev pub invariant-loop-branch : goal.invariant-loop-branch
invariant-loop-branch l = l.behind ≡ map (onto l.question) l.yielded
