use Rattle.std.proofs.Common.{◌≡◌, ◌++◌, take}
use Rattle.ac_top.specs.GenReports.{all_found_text}
use Rattle.ac_top.proofs.generated.push_all_found.Given as goal

abbrev pub invariant-loop-outcome : goal.invariant-loop-outcome
invariant-loop-outcome l = l.bytes.items ≡ l.fn.bytes.items ++ all_found_text l.name (take l.outcome-index l.outcomes)
