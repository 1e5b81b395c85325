use Rattle.ac_unfold.proofs.Tabled.{FirstMissed}
use Rattle.ac_unfold.proofs.tabling.first_hit.Given as goal

abbrev pub invariant-loop-number : goal.invariant-loop-number
invariant-loop-number l = FirstMissed l.search l.node.question l.number
