use Rattle.ac_unfold_complete.proofs.Breaking.{nothing_is_broken}
use Rattle.ac_unfold_complete.proofs.laws.nothing_is_broken.Goals as goal

pub returns : goal.returns
returns c = nothing_is_broken
