use Rattle.ac_forms.proofs.Again.{kept-again, kept-fits, form-again}
use Rattle.ac_forms.proofs.laws.normal_rows_are_normal.Goals as goal

pub returns-clause-kept : goal.returns-clause-kept
returns-clause-kept c = λ r s m e. kept-again r s m e

pub returns-clause-each : goal.returns-clause-each
returns-clause-each c = λ r m h. form-again c.args.rows.now r m h

pub returns-clause-fits : goal.returns-clause-fits
returns-clause-fits c = λ r s a e. kept-fits r s a e
