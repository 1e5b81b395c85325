use Rattle.ac_unfold_complete.proofs.Fine.{standing_starts_are_fine}
use Rattle.ac_unfold_complete.proofs.laws.standing_starts_are_fine.Goals as goal

pub returns : goal.returns
returns c = standing_starts_are_fine
