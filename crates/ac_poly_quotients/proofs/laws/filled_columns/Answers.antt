use Rattle.ac_poly_quotients.proofs.FilledColumns.{filled-append, filled_grows, counters_are, filled_known, known_at, steady_value, pieces_steady, rows_steady, filled_plain}
use Rattle.ac_poly_quotients.proofs.laws.filled_columns.Goals as goal

pub returns-clause-append : goal.returns-clause-append
returns-clause-append c = filled-append

pub returns-clause-grows : goal.returns-clause-grows
returns-clause-grows c = filled_grows

pub returns-clause-counters : goal.returns-clause-counters
returns-clause-counters c = counters_are

pub returns-clause-known : goal.returns-clause-known
returns-clause-known c = filled_known

pub returns-clause-at_column : goal.returns-clause-at_column
returns-clause-at_column c = known_at

pub returns-clause-forms : goal.returns-clause-forms
returns-clause-forms c = steady_value

pub returns-clause-pieces : goal.returns-clause-pieces
returns-clause-pieces c = pieces_steady

pub returns-clause-plain : goal.returns-clause-plain
returns-clause-plain c = filled_plain

pub returns-clause-rows : goal.returns-clause-rows
returns-clause-rows c = rows_steady
