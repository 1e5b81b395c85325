use Rattle.ac_walk_state.proofs.Reducing.{ReducedHalfway}
use Rattle.ac_walk_state.proofs.following.reduced_by_all.Given as goal

abbrev pub invariant-loop-equality : goal.invariant-loop-equality
invariant-loop-equality l = ReducedHalfway l.form l.equalities l.rest l.equality-index
