use Rattle.ac_syntax.proofs.PlaceLaws.{cells_are_compared, source_stands_last, no_source_is_no_writer}
use Rattle.ac_syntax.proofs.laws.sources_by_place.Goals as goal

pub returns-clause-last : goal.returns-clause-last
returns-clause-last c = source_stands_last

pub returns-clause-none : goal.returns-clause-none
returns-clause-none c = no_source_is_no_writer

pub returns-clause-cells : goal.returns-clause-cells
returns-clause-cells c = cells_are_compared
