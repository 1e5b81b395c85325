use Rattle.ac_walk_state.proofs.Testing.{SearchHalfway}
use Rattle.ac_walk_state.proofs.widening_point.WideningPoint.place_of.Given as goal

abbrev pub invariant-loop-at : goal.invariant-loop-at
invariant-loop-at l = SearchHalfway l.point l.members l.at
