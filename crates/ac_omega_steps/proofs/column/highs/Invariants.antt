use Rattle.ac_omega_steps.proofs.Parts.{HighsSoFar}
use Rattle.ac_omega_steps.proofs.column.highs.Given as goal

abbrev pub invariant-loop-row : goal.invariant-loop-row
invariant-loop-row l = HighsSoFar l.z l.row-index l.rows l.made
