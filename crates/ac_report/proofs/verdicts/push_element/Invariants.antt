use Rattle.std.proofs.Common.{◌≡◌, ◌++◌, take}
use Rattle.std.specs.List.{flat_map}
use Rattle.ac_report.specs.ReportTexts.{coordinate_text}
use Rattle.ac_report.proofs.verdicts.push_element.Given as goal

abbrev pub invariant-loop-x : goal.invariant-loop-x
invariant-loop-x l = l.bytes.items ≡ l.fn.bytes.items ++ flat_map coordinate_text (take l.x-index l.element)
