use Rattle.std.proofs.Common.{◌≡◌, ◌++◌}
use Rattle.ac_walk.proofs.tabling.with_claims.Given as goal

abbrev pub invariant-loop-claim : goal.invariant-loop-claim
invariant-loop-claim l = l.all.items ≡ l.fn.claims.items ++ l.yielded
