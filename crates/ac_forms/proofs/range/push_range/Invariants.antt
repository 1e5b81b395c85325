use Rattle.ac_forms.proofs.Ranges.{Ranged}
use Rattle.ac_forms.proofs.range.push_range.Given as goal

abbrev pub invariant-loop-k : goal.invariant-loop-k
invariant-loop-k l = Ranged l.fn.list l.fn.first l.k l.list
