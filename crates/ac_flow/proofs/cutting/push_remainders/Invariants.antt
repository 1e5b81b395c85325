use Rattle.std.proofs.Common.{◌≡◌, ◌++◌, map}
use Rattle.ac_flow.specs.FlowCases.{remainder}
use Rattle.ac_flow.proofs.cutting.push_remainders.Given as goal

abbrev pub invariant-loop-conj : goal.invariant-loop-conj
invariant-loop-conj l = l.out ≡ l.fn.out ++ map (remainder l.reader) l.yielded
