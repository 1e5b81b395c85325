use Rattle.ac_flow.proofs.WritingSteps.{Numbered}
use Rattle.ac_flow.proofs.writings.numbered.Given as goal

abbrev pub invariant-loop-k : goal.invariant-loop-k
invariant-loop-k l = Numbered l.k l.all
