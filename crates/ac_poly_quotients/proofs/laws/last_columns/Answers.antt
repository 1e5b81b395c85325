use Rattle.ac_poly_quotients.proofs.PlacedPieces.{columns_are_woven, rows_filled}
use Rattle.ac_poly_quotients.proofs.LastColumns.{finals_made, final-distinct, final-columns}
use Rattle.ac_poly_quotients.proofs.laws.last_columns.Goals as goal

pub returns-clause-woven : goal.returns-clause-woven
returns-clause-woven c = columns_are_woven

pub returns-clause-filled : goal.returns-clause-filled
returns-clause-filled c = rows_filled

pub returns-clause-made : goal.returns-clause-made
returns-clause-made c = finals_made

pub returns-clause-distinct : goal.returns-clause-distinct
returns-clause-distinct c = final-distinct

pub returns-clause-columns : goal.returns-clause-columns
returns-clause-columns c = final-columns
