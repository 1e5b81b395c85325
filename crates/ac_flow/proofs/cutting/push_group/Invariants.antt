use Rattle.std.proofs.Common.{◌≡◌, ◌++◌}
use Rattle.ac_flow.proofs.cutting.push_group.Given as goal

abbrev pub invariant-loop-conj : goal.invariant-loop-conj
invariant-loop-conj l = l.kept ≡ l.fn.kept ++ l.yielded
