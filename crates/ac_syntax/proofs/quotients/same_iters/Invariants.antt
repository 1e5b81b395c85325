use Rattle.std.proofs.Common.{◌≡◌, drop}
use Rattle.ac_syntax.specs.Quotients.{same_iters}
use Rattle.ac_syntax.proofs.quotients.same_iters.Given as goal

abbrev pub invariant-loop-i : goal.invariant-loop-i
invariant-loop-i l = same_iters (drop l.i l.left) (drop l.i l.right) ≡ same_iters l.left l.right
