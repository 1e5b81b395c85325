use Rattle.std.proofs.Common.{◌≡◌, ◌++◌}
use Rattle.ac_walk_state.proofs.proofs.with_claims.Given as goal

abbrev pub invariant-loop-claim : goal.invariant-loop-claim
invariant-loop-claim l = l.all ≡ l.fn.claims ++ l.yielded
