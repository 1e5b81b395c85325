-- Stops of calls inside calls.
use Rattle.ac_forms.specs.FormStops.{IfWide}
use Rattle.ac_forms.specs.declared.stop.FormStop.{FormStop}
use Rattle.ac_forms.specs.declared.stop.FormStop.TheVariants.{Wide, Memory}

-- a call is wide where one inside it is
pub wide_inside : (stop : FormStop) (P Q : Type 0) → IfWide stop (¬ P) → (Q → P) → IfWide stop (¬ Q)
wide_inside Wide P Q h f = λ q. h (f q)
wide_inside (Memory e) P Q h f = tt
