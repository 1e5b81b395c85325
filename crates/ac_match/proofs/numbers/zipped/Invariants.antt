use Rattle.ac_match.proofs.Numbering.{ZippedHalfway}
use Rattle.ac_match.proofs.numbers.zipped.Given as goal

abbrev pub invariant-loop-at : goal.invariant-loop-at
invariant-loop-at l = ZippedHalfway l.sites l.orders l.chosen l.at
