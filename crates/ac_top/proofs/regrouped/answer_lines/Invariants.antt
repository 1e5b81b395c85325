use Rattle.std.proofs.Common.{◌≡◌, take}
use Rattle.ac_top.specs.ArrangementLines.{answer_lines}
use Rattle.ac_top.proofs.regrouped.answer_lines.Given as goal

abbrev pub invariant-loop-at : goal.invariant-loop-at
invariant-loop-at l = l.bytes.items ≡ answer_lines l.arrays (take l.at l.outputs) (take l.at l.answers)
