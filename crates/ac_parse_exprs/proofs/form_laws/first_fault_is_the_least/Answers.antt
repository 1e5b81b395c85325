use Rattle.ac_parse_exprs.proofs.FaultOrder.{first_is_least, no_first_is_none}
use Rattle.ac_parse_exprs.proofs.form_laws.first_fault_is_the_least.Goals as goal

pub returns-clause-least : goal.returns-clause-least
returns-clause-least c = first_is_least

pub returns-clause-none : goal.returns-clause-none
returns-clause-none c = no_first_is_none
