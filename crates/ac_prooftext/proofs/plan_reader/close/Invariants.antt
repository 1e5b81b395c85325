use Rattle.std.proofs.Common.{List, Option, length}
use Rattle.ac_claims.specs.declared.types.Plan.{Plan}
use Rattle.ac_prooftext.specs.ProofAssembly.{Opened, Closes, inner}
use Rattle.ac_prooftext.proofs.plan_reader.close.Given as goal

abbrev pub invariant-loop-branch : goal.invariant-loop-branch
invariant-loop-branch l = (new : List Opened) (w : Option Plan) → Closes (inner l.branches) l.plan new w → Closes (inner l.fn.branches) l.fn.plan new w

abbrev pub decreases-loop-branch : goal.decreases-loop-branch
decreases-loop-branch l = length l.branches
