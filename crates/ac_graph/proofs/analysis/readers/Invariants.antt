use Rattle.std.proofs.Common.{◌≡◌, take}
use Rattle.ac_graph.specs.Recurrence.{readers}
use Rattle.ac_graph.proofs.analysis.readers.Given as goal

abbrev pub invariant-loop-at : goal.invariant-loop-at
invariant-loop-at l = l.made ≡ readers l.both (take l.at l.pairs)
