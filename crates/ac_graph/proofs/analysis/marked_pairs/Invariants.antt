use Rattle.ac_graph.proofs.RecurSteps.{MarkedUpTo}
use Rattle.ac_graph.proofs.analysis.marked_pairs.Given as goal

abbrev pub invariant-loop-at : goal.invariant-loop-at
invariant-loop-at l = MarkedUpTo l.pairs l.on_cycles l.readers l.on_reading l.made l.at
