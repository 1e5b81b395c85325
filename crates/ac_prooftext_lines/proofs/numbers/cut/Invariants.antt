use Rattle.std.proofs.Common.{take}
use Rattle.ac_prooftext_lines.specs.LineWords.{IsFree}
use Rattle.ac_prooftext_lines.proofs.numbers.cut.Given as goal

abbrev pub invariant-loop-at : goal.invariant-loop-at
invariant-loop-at l = IsFree l.mark (take l.at l.text)
