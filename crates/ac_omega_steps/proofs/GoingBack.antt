-- What the steps of elimination say of points.
use Rattle.std.proofs.Common.{◌≡◌, ◌↔◌, ℤ, List, true, length, Result, Ok, Err, IfOk, sym, subst}
use Rattle.std.specs.Prelude.{Vec}
use Rattle.std.specs.declared.alloc.Global.{Global}
use Rattle.ac_forms.specs.Rows.{Meets}
use Rattle.ac_forms.specs.FormStops.{MadeWhere}
use Rattle.ac_forms.specs.declared.conj.Conj.{Conj}
use Rattle.ac_forms.specs.declared.stop.FormStop.{FormStop}
use Rattle.ac_omega_steps.specs.declared.choose.Choice.{Choice}
use Rattle.ac_omega_steps.specs.declared.choose.StepStop.{StepStop}
use Rattle.ac_omega_steps.specs.ChoiceFits.{after_choice, lift_fits, StepsTo}
use Rattle.ac_omega_steps.specs.Choices.{is_legal, left_by, lifted}
use Rattle.ac_omega_steps.specs.IntegerPoints.{IsPoint}
use Rattle.ac_omega_steps.proofs.Lifting.{lifts, lifts-after}

pub step-lifts : (h : Choice) (c : Conj) (result : Result Conj StepStop) → StepsTo (is_legal h c) (after_choice h c) result
    → IfOk result (λ d. (p : List ℤ) → Meets d.rows p ↔ Meets (left_by h c.rows) p) → IfOk result (λ d. (q : List ℤ) → IsPoint d q → IsPoint c (lifted h c.rows q))
step-lifts h c (Ok d) e same = λ q at. lifts-after h c d e.0 e.1 same q at
step-lifts h c (Err stop) e same = tt

pub lift-point : (h : Choice) (c : Conj) (q : List ℤ) (result : Result (Vec ℤ Global) FormStop) → is_legal h c ≡ true → length q ≡ c.columns → Meets (left_by h c.rows) q
    → MadeWhere result (lift_fits h c.rows q ≡ true) (λ p. p.items ≡ lifted h c.rows q) → IfOk result (λ p. IsPoint c p.items)
lift-point h c q (Ok p) e l m made = subst (λ (x : List ℤ). IsPoint c x) (sym made.1) (lifts h c q e l m)
lift-point h c q (Err stop) e l m made = tt
