use Rattle.std.proofs.Common.{take}
use Rattle.ac_legal_text.specs.Fronts.{IsInk}
use Rattle.ac_legal_text.proofs.fronts.word_len.Given as goal

abbrev pub invariant-loop-at : goal.invariant-loop-at
invariant-loop-at l = IsInk (take l.at l.text)
