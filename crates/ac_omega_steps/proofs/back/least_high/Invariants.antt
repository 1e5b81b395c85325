use Rattle.ac_omega_steps.proofs.Values.{HighsHalfway}
use Rattle.ac_omega_steps.proofs.back.least_high.Given as goal

abbrev pub invariant-loop-row : goal.invariant-loop-row
invariant-loop-row l = HighsHalfway l.z l.row-index l.rows l.point l.best
