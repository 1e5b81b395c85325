use Rattle.ac_omega_steps.proofs.Values.{LowsHalfway}
use Rattle.ac_omega_steps.proofs.back.greatest_low.Given as goal

abbrev pub invariant-loop-row : goal.invariant-loop-row
invariant-loop-row l = LowsHalfway l.z l.row-index l.rows l.point l.best
