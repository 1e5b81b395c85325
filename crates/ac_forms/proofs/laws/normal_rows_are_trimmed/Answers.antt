use Rattle.ac_forms.proofs.Trimmed.{normal-trimmed, kept-trimmed, rows-short}
use Rattle.ac_forms.proofs.laws.normal_rows_are_trimmed.Goals as goal

pub returns-clause-normal : goal.returns-clause-normal
returns-clause-normal c = normal-trimmed c.args.rows.now

pub returns-clause-kept : goal.returns-clause-kept
returns-clause-kept c = λ r s e. kept-trimmed r s e

pub returns-clause-short : goal.returns-clause-short
returns-clause-short c = λ first n w e z. rows-short first n c.args.rows.now w e z
