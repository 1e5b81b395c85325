use Rattle.ac_parse_exprs.proofs.WrittenExpressions as written
use Rattle.ac_parse_exprs.proofs.form_laws.forms_have_values.Goals as goal

pub returns-clause-forms : goal.returns-clause-forms
returns-clause-forms c = written.forms_have_values

pub returns-clause-indices : goal.returns-clause-indices
returns-clause-indices c = written.indices_have_values
