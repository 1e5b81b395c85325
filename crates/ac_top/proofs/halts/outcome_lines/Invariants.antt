use Rattle.std.proofs.Common.{◌≡◌, take}
use Rattle.ac_top.specs.ConsoleLines.{outcome_lines}
use Rattle.ac_top.proofs.halts.outcome_lines.Given as goal

abbrev pub invariant-loop-at : goal.invariant-loop-at
invariant-loop-at l = l.bytes.items ≡ outcome_lines l.arrays (take l.at l.outputs) (take l.at l.outcomes)
