use Rattle.std.proofs.Common.{map, take}
use Rattle.ac_forms.specs.ListMembers.{IsAmong}
use Rattle.ac_walk_state.specs.RecurrencePairs.{positions}
use Rattle.ac_walk_state.proofs.known.number_of.Given as goal

abbrev pub invariant-loop-at : goal.invariant-loop-at
invariant-loop-at l = ¬ (IsAmong (l.left, l.right) (map positions (take l.at l.widening_points)))
