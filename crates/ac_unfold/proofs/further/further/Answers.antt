use Rattle.std.proofs.Common.{refl}
use Rattle.ac_unfold.proofs.Adding.{adds_none}
use Rattle.ac_unfold.proofs.further.further.Goals as goal

pub returns-in-None : goal.returns-in-None
returns-in-None c = λ n h. adds_none _ _ _ _ refl
