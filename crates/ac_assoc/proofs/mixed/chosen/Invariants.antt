use Rattle.std.proofs.Common.{◌≡◌, ◌≤◌, ◌++◌, take, reverse, length}
use Rattle.ac_assoc.specs.ChosenOrders.{read_from}
use Rattle.ac_assoc.proofs.mixed.chosen.Given as goal

abbrev pub invariant-loop-at : goal.invariant-loop-at
invariant-loop-at l = record { value : read_from (reverse l.chains) l.number ≡ l.made ++ read_from (reverse (take l.at l.chains)) l.rest; within : l.at ≤ length l.chains }

abbrev pub decreases-loop-at : goal.decreases-loop-at
decreases-loop-at l = l.at
