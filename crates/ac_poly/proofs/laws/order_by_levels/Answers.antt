use Rattle.ac_poly.proofs.LevelRows.{levels_are_apart, levels_have_columns, levels_move}
use Rattle.ac_poly.proofs.Orders.{levels_are_the_order}
use Rattle.ac_poly.proofs.laws.order_by_levels.Goals as goal

pub returns-clause-order : goal.returns-clause-order
returns-clause-order c = levels_are_the_order

pub returns-clause-apart : goal.returns-clause-apart
returns-clause-apart c = levels_are_apart

pub returns-clause-columns : goal.returns-clause-columns
returns-clause-columns c = levels_have_columns

pub returns-clause-elsewhere : goal.returns-clause-elsewhere
returns-clause-elsewhere c = levels_move
