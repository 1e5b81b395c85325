use Rattle.ac_match.proofs.Numbering.{NumberedHalfway}
use Rattle.ac_match.proofs.numbers.numbered.Given as goal

abbrev pub invariant-loop-choice : goal.invariant-loop-choice
invariant-loop-choice l = NumberedHalfway l.sites l.partial l.choices l.choice-index
