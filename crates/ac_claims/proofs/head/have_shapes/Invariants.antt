use Rattle.std.proofs.Common.{◌≡◌, drop}
use Rattle.ac_claims.specs.ProofFaults.{have_shapes}
use Rattle.ac_claims.proofs.head.have_shapes.Given as goal

abbrev pub invariant-loop-i : goal.invariant-loop-i
invariant-loop-i l = have_shapes l.shapes l.stmts ≡ have_shapes (drop l.i l.shapes) (drop l.i l.stmts)
