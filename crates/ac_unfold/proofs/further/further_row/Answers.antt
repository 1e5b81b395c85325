use Rattle.std.proofs.Common.{refl}
use Rattle.ac_unfold.proofs.Adding.{adds_none}
use Rattle.ac_unfold.proofs.further.further_row.Goals as goal

pub returns-then-standing : goal.returns-then-standing
returns-then-standing c = adds_none _ _ _ _ refl

pub returns-in-Absurd : goal.returns-in-Absurd
returns-in-Absurd c = adds_none _ _ _ _ refl

pub returns-in-Wide : goal.returns-in-Wide
returns-in-Wide c = adds_none _ _ _ _ refl
