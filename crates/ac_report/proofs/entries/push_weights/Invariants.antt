use Rattle.std.proofs.Common.{◌≡◌, ◌++◌, take}
use Rattle.std.specs.List.{flat_map}
use Rattle.ac_report.specs.ReportTexts.{weight_text}
use Rattle.ac_report.proofs.entries.push_weights.Given as goal

abbrev pub invariant-loop-entry : goal.invariant-loop-entry
invariant-loop-entry l = l.bytes.items ≡ l.fn.bytes.items ++ flat_map weight_text (take l.entry-index l.weights)
