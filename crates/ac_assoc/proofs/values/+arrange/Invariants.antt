use Rattle.ac_assoc.specs.ChosenOrders.{number_at}
use Rattle.ac_assoc.proofs.Arranging.{ValuesMade, Brought}
use Rattle.ac_assoc.proofs.values.+arrange.Given as goal

abbrev pub invariant-arrange_values-loop-value : goal.invariant-arrange_values-loop-value
invariant-arrange_values-loop-value l = ValuesMade l.by.names.now (number_at l.by.orders.now l.by.stmt) l.first l.values l.value-index l.made l.at

abbrev pub invariant-bring_all-loop-value : goal.invariant-bring_all-loop-value
invariant-bring_all-loop-value l = Brought l.by.names.now (number_at l.by.orders.now l.by.stmt) l.name l.first l.values l.fn.operands l.value-index l.operands l.at
