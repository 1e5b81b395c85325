use Rattle.ac_flow.proofs.Sourcing.{no_copy_law}
use Rattle.ac_flow.proofs.laws.no_copy_between.Goals as goal

pub returns : goal.returns
returns c = no_copy_law
