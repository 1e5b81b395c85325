use Rattle.ac_omega.proofs.Charging.{PairsHalfway}
use Rattle.ac_omega.proofs.cost.with_all_pairs.Given as goal

abbrev pub invariant-loop-z : goal.invariant-loop-z
invariant-loop-z l = PairsHalfway l.rows l.vars l.cost l.total l.z-index
