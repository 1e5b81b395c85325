use Rattle.std.proofs.Common.{◌≡◌, ◌++◌}
use Rattle.ac_unfold_table.proofs.stepping.push_calls.Given as goal

abbrev pub invariant-loop-branch : goal.invariant-loop-branch
invariant-loop-branch l = l.found ≡ l.fn.found ++ l.yielded
