use Rattle.ac_top.specs.ArrangementStages.{IsSoFar}
use Rattle.ac_top.proofs.arrangements.answer_on.Given as goal

abbrev pub invariant-loop-number : goal.invariant-loop-number
invariant-loop-number l = IsSoFar l.asked.symbols.now l.asked.pair.now l.output l.number l.early
