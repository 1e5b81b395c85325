use Rattle.ac_flow.proofs.InPieces.{flows_of_readers}
use Rattle.ac_flow.proofs.steps.flows_are_of_readers.Goals as goal

pub returns : goal.returns
returns c = flows_of_readers
