use Rattle.std.proofs.Common.{◌≡◌, ◌++◌}
use Rattle.std.specs.List.{flat_map}
use Rattle.ac_flow.specs.FlowCases.{conjs_of}
use Rattle.ac_flow.proofs.reading.push_cases.Given as goal

abbrev pub invariant-loop-case : goal.invariant-loop-case
invariant-loop-case l = l.kept ≡ l.fn.kept ++ flat_map conjs_of l.yielded
