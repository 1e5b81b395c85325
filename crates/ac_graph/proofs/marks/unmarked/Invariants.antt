use Rattle.std.proofs.Common.{◌≡◌, replicate, false}
use Rattle.ac_graph.proofs.marks.unmarked.Given as goal

abbrev pub invariant-loop : goal.invariant-loop
invariant-loop l = l.marks.items ≡ replicate l.counter false
