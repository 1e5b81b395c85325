use Rattle.ac_poly_quotients.proofs.LastColumns.{final-plain, renamed-same}
use Rattle.ac_poly_quotients.proofs.PlacedPieces.{placed_plain}
use Rattle.ac_poly_quotients.proofs.laws.plain_columns_stay.Goals as goal

pub returns-clause-columns : goal.returns-clause-columns
returns-clause-columns c = final-plain

pub returns-clause-forms : goal.returns-clause-forms
returns-clause-forms c = renamed-same

pub returns-clause-pieces : goal.returns-clause-pieces
returns-clause-pieces c = placed_plain
