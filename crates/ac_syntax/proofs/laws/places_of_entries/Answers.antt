use Rattle.ac_syntax.proofs.PlaceLaws.{entries_have_places, one_place_one_entry, entries_before_stand_earlier}
use Rattle.ac_syntax.proofs.laws.places_of_entries.Goals as goal

pub returns-clause-each : goal.returns-clause-each
returns-clause-each c = entries_have_places

pub returns-clause-one : goal.returns-clause-one
returns-clause-one c = one_place_one_entry

pub returns-clause-before : goal.returns-clause-before
returns-clause-before c = entries_before_stand_earlier
