use Rattle.ac_parse_exprs.proofs.WrittenConditions as written
use Rattle.ac_parse_exprs.proofs.form_laws.conditions_hold_as_written.Goals as goal

pub returns-clause-comparisons : goal.returns-clause-comparisons
returns-clause-comparisons c = written.comparisons_hold

pub returns-clause-conditions : goal.returns-clause-conditions
returns-clause-conditions c = written.conditions_hold
