use Rattle.std.proofs.Common.{◌≡◌, ◌++◌}
use Rattle.ac_walk.proofs.tabling.with_plans.Given as goal

abbrev pub invariant-loop-plan : goal.invariant-loop-plan
invariant-loop-plan l = l.all.items ≡ l.fn.plans.items ++ l.yielded
