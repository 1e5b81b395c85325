use Rattle.ac_assoc.specs.ChosenOrders.{number_at}
use Rattle.ac_assoc.proofs.Stating.{StmtsMade}
use Rattle.ac_assoc.proofs.statements.+statements.Given as goal

abbrev pub invariant-arrange_stmts-loop-stmt : goal.invariant-arrange_stmts-loop-stmt
invariant-arrange_stmts-loop-stmt l = StmtsMade l.by.names.now (number_at l.by.orders.now) l.by.stmt l.stmts l.stmt-index l.made l.at
