use Rattle.std.proofs.Common.{◌≡◌, ◌∙◌, ◌∷◌, [], ap, sym, subst, rules, FitsSigned, w64}
use Rattle.std.specs.Int.{w128}
use Rattle.std.proofs.lemmas.Int.{to_z-of_z}
use Rattle.ac_syntax.proofs.Wide.{widened}
use Rattle.ac_instance.specs.Events.{evaluated, divided, reached}
use Rattle.ac_instance.specs.MachineSteps.{IsDue}
use Rattle.ac_instance.proofs.Happen.{halts}
use Rattle.ac_instance.proofs.machine.divided.Goals as goal

pub returns-in_err-_quotient-in-Divides : goal.returns-in_err-_quotient-in-Divides
returns-in_err-_quotient-in-Divides c m =
    let d : FitsSigned w64 c.in-Divides.divisor = search rules in
    let v : FitsSigned w64 c.args.value = c.ranges.value in
    let w : FitsSigned w128 c.args.value = widened _ v in
    let h = c.in_err-_quotient-in-Divides.field-0.0 in
    let is = simp to_z-of_z at c.round.ensures in
    let same : (evaluated c.args.side c.args.place c.round.result ∷ []) ≡ divided c.args.side c.args.place c.args.rel c.args.value =
    ap (λ o. evaluated c.args.side c.args.place o ∷ []) is ∙ sym (ap (λ r. divided c.args.side c.args.place r c.args.value) c.in-Divides.is) in
    halts m m _ c.from_residual.result h c.from_residual.ensures.1 (subst (λ hs. IsDue (reached m.limit m.events hs) h) same (c.in_err-_quotient-in-Divides.ensures.steps m))
