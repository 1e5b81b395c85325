use Rattle.std.proofs.Common.{◌≡◌, take}
use Rattle.ac_top.specs.ConsoleLines.{accepted_lines}
use Rattle.ac_top.proofs.proof_lines.accepted_lines.Given as goal

abbrev pub invariant-loop-output : goal.invariant-loop-output
invariant-loop-output l = l.bytes.items ≡ accepted_lines l.arrays (take l.output-index l.outputs)
