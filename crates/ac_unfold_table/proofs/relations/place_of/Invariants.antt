use Rattle.ac_unfold_table.proofs.Places.{IsBehind}
use Rattle.ac_unfold_table.proofs.relations.place_of.Given as goal

abbrev pub invariant-loop-at : goal.invariant-loop-at
invariant-loop-at l = IsBehind l.own l.column l.at
