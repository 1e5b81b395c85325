use Rattle.std.proofs.Common.{take}
use Rattle.ac_walk_state.specs.PartialOrders.{AreSourcesOf}
use Rattle.ac_walk_state.proofs.partial.stepped_from.Given as goal

abbrev pub invariant-loop-entry : goal.invariant-loop-entry
invariant-loop-entry l = AreSourcesOf l.entries (take l.entry-index l.entries) l.pairs
