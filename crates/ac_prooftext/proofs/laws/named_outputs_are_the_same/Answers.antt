use Rattle.ac_prooftext.proofs.Sound.{named_outputs_are_same, accepted_outputs_are_same}
use Rattle.ac_prooftext.proofs.laws.named_outputs_are_the_same.Goals as goal

pub returns : goal.returns
returns c = record { lines = named_outputs_are_same c.args.alloc; stream = accepted_outputs_are_same c.args.alloc }
