use Rattle.std.proofs.Common.{◌≡◌, ◌++◌, map}
use Rattle.ac_flow.specs.FlowCases.{conj_of_remainder}
use Rattle.ac_flow.proofs.cutting.push_conjs.Given as goal

abbrev pub invariant-loop-remainder : goal.invariant-loop-remainder
invariant-loop-remainder l = l.kept ≡ l.fn.kept ++ map conj_of_remainder l.yielded
