use Rattle.std.proofs.Common.{map}
use Rattle.ac_claims_paths.specs.BranchPaths.{onto}
use Rattle.ac_claims_paths.proofs.CallLoops.{AtArgument}
use Rattle.ac_claims_paths.proofs.calls.kept.Given as goal

abbrev pub invariant-loop-k : goal.invariant-loop-k
invariant-loop-k l = AtArgument l.fn.path l.fn.left.stmt l.fn.right.stmt l.fn.left.args.now l.fn.right.args.now l.k (map (onto l.fn.path) l.made)
