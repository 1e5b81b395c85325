use Rattle.std.proofs.Common.{◌≡◌, drop}
use Rattle.ac_assoc.specs.ChosenOrders.{number_at}
use Rattle.ac_assoc.proofs.orders.number_at.Given as goal

abbrev pub invariant-loop-chosen : goal.invariant-loop-chosen
invariant-loop-chosen l = number_at l.orders l.stmt l.node ≡ number_at (drop l.chosen-index l.orders) l.stmt l.node
