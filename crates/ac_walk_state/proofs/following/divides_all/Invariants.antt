use Rattle.ac_walk_state.proofs.Reducing.{DividesHalfway}
use Rattle.ac_walk_state.proofs.following.divides_all.Given as goal

abbrev pub invariant-loop-column : goal.invariant-loop-column
invariant-loop-column l = DividesHalfway l.fn.modulus l.form.coefs l.column
