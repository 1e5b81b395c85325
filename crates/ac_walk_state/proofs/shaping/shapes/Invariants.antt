use Rattle.std.proofs.Common.{◌≡◌, take, true}
use Rattle.ac_claims.specs.ProofFaults.{have_shapes}
use Rattle.ac_walk_state.proofs.shaping.shapes.Given as goal

abbrev pub invariant-loop-stmt : goal.invariant-loop-stmt
invariant-loop-stmt l = have_shapes l.made (take l.stmt-index l.model.stmts) ≡ true
