use Rattle.std.proofs.Common.{◌≡◌, drop}
use Rattle.ac_syntax.specs.CheckedArithmetic.{summed}
use Rattle.ac_syntax.proofs.evaluate.sum_products.Given as goal

abbrev pub invariant-loop-i : goal.invariant-loop-i
invariant-loop-i l = summed l.sum (drop l.i l.coefs) (drop l.i l.values) ≡ summed l.start l.coefs l.values
