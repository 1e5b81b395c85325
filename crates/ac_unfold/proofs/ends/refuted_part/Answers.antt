use Rattle.std.proofs.Common.{refl}
use Rattle.ac_unfold.proofs.Adding.{adds_none}
use Rattle.ac_unfold.proofs.ends.refuted_part.Goals as goal

pub returns-in-Some-Empty-clause-found : goal.returns-in-Some-Empty-clause-found
returns-in-Some-Empty-clause-found c = adds_none _ _ _ _ refl
