use Rattle.std.proofs.Common.{◌≡◌, ◌++◌, take}
use Rattle.std.specs.List.{flat_map}
use Rattle.ac_report.specs.ReportTexts.{refuted_lines}
use Rattle.ac_report.proofs.entries.push_all_refuted.Given as goal

abbrev pub invariant-loop-refuted : goal.invariant-loop-refuted
invariant-loop-refuted l = l.bytes.items ≡ l.fn.bytes.items ++ flat_map (refuted_lines l.layout) (take l.refuted-index l.all)
