use Rattle.ac_flow.proofs.Sourcing.{source_law}
use Rattle.ac_flow.proofs.laws.the_source_has_rows.Goals as goal

pub returns : goal.returns
returns c = source_law
