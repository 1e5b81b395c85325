use Rattle.ac_poly_quotients.proofs.PlacedPieces.{forms_move, never_wide, pieces_move, values_of_columns, placed_once, placed_over}
use Rattle.ac_poly_quotients.proofs.laws.moved_forms.Goals as goal

pub returns-clause-forms : goal.returns-clause-forms
returns-clause-forms c = forms_move

pub returns-clause-pieces : goal.returns-clause-pieces
returns-clause-pieces c = pieces_move

pub returns-clause-quotients : goal.returns-clause-quotients
returns-clause-quotients c = values_of_columns

pub returns-clause-apart : goal.returns-clause-apart
returns-clause-apart c = placed_once

pub returns-clause-columns : goal.returns-clause-columns
returns-clause-columns c = placed_over

pub returns-clause-wide : goal.returns-clause-wide
returns-clause-wide c = never_wide
