use Rattle.std.proofs.Common.{◌≡◌, ◌++◌, map}
use Rattle.ac_sets.specs.SetDifferences.{further}
use Rattle.ac_sets.proofs.differences.push_outside.Given as goal

abbrev pub invariant-loop-part : goal.invariant-loop-part
invariant-loop-part l = l.pieces ≡ l.fn.pieces ++ map (further l.here) l.yielded
