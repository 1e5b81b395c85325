use Rattle.ac_poly_quotients.proofs.QuotientRows.{quotient_rows_hold, rows_are_values, quotient_rows-over}
use Rattle.ac_poly_quotients.proofs.laws.rows_of_quotients.Goals as goal

pub returns-clause-hold : goal.returns-clause-hold
returns-clause-hold c = quotient_rows_hold

pub returns-clause-values : goal.returns-clause-values
returns-clause-values c = rows_are_values

pub returns-clause-columns : goal.returns-clause-columns
returns-clause-columns c = quotient_rows-over
