use Rattle.ac_base.proofs.Contents.{ContentHalfway}
use Rattle.ac_base.proofs.integers.content.Given as goal

abbrev pub invariant-loop-number : goal.invariant-loop-number
invariant-loop-number l = ContentHalfway l.numbers l.divisor l.number-index
