use Rattle.std.proofs.Common.{◌≡◌, ◌++◌, take}
use Rattle.ac_report.specs.FlowTexts.{flow_lines}
use Rattle.ac_report.proofs.flows.push_readers.Given as goal

abbrev pub invariant-loop-read : goal.invariant-loop-read
invariant-loop-read l = l.bytes.items ≡ l.fn.bytes.items ++ flow_lines l.layout (take l.read-index l.reads)
