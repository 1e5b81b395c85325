use Rattle.ac_forms.proofs.Distinct.{sums_fit-is, renaming-value, row_renaming-points, rows_renaming-points, rows_renaming-over}
use Rattle.ac_forms.proofs.laws.renamed_values.Goals as goal

pub returns-clause-test : goal.returns-clause-test
returns-clause-test c = λ f. sums_fit-is c.args.columns.now f.coefs

pub returns-clause-value : goal.returns-clause-value
returns-clause-value c = λ f g p e. renaming-value c.args.columns.now f g p e

pub returns-clause-row : goal.returns-clause-row
returns-clause-row c = λ r s p e. row_renaming-points c.args.columns.now r s p e

pub returns-clause-rows : goal.returns-clause-rows
returns-clause-rows c = λ rs ss p e. rows_renaming-points c.args.columns.now rs ss p e

pub returns-clause-over : goal.returns-clause-over
returns-clause-over c = λ n rs ss h m e. rows_renaming-over c.args.columns.now n rs ss h m e
