use Rattle.std.proofs.Common.{◌≡◌, ◌++◌, take}
use Rattle.ac_report.proofs.names.with_names.Given as goal

abbrev pub invariant-loop-name : goal.invariant-loop-name
invariant-loop-name l = l.made ≡ l.fn.made ++ take l.name-index l.names
