use Rattle.ac_unfold_table.proofs.Places.{ArePlaced}
use Rattle.ac_unfold_table.proofs.relations.places.Given as goal

abbrev pub invariant-loop-column : goal.invariant-loop-column
invariant-loop-column l = ArePlaced l.own l.columns l.column l.further l.places.items
