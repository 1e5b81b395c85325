use Rattle.std.proofs.Common.{◌≡◌, drop}
use Rattle.ac_syntax.specs.Index.{point}
use Rattle.ac_syntax.specs.CheckedArithmetic.{summed_quots}
use Rattle.ac_syntax.proofs.evaluate.sum_quots.Given as goal

abbrev pub invariant-loop-quot : goal.invariant-loop-quot
invariant-loop-quot l = summed_quots (point l.params l.iters) l.sum (drop l.quot-index l.quots) ≡ summed_quots (point l.params l.iters) l.start l.quots
