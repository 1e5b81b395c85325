use Rattle.std.proofs.Common.{◌≡◌, ◌++◌, take}
use Rattle.std.specs.List.{flat_map}
use Rattle.ac_report.specs.Layouts.{reads_of}
use Rattle.ac_report.proofs.layout.+values.Given as goal

abbrev pub invariant-with_arguments-loop-value : goal.invariant-with_arguments-loop-value
invariant-with_arguments-loop-value l = l.made ≡ l.fn.made ++ flat_map reads_of (take l.value-index l.values)
