use Rattle.ac_walk_state.proofs.Weighing.{WeighHalfway}
use Rattle.ac_walk_state.proofs.member.weighed.Given as goal

abbrev pub invariant-loop-at : goal.invariant-loop-at
invariant-loop-at l = WeighHalfway l.kept l.combination.weights l.weights l.at
