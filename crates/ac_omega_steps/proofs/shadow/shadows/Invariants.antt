use Rattle.ac_omega_steps.proofs.LeftRows.{ShadowsSoFar}
use Rattle.ac_omega_steps.proofs.shadow.shadows.Given as goal

abbrev pub invariant-loop-low : goal.invariant-loop-low
invariant-loop-low l = ShadowsSoFar l.columns l.lows l.highs l.fn.made l.made l.low-index
