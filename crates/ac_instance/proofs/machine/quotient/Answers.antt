use Rattle.std.proofs.Common.{◌∷◌, [], subst}
use Rattle.ac_syntax.specs.CheckedArithmetic.{checked_argument, checked_quot}
use Rattle.ac_syntax.specs.Index.{point}
use Rattle.ac_instance.specs.Events.{evaluated, reached}
use Rattle.ac_instance.specs.MachineSteps.{IsDue, Advances}
use Rattle.ac_instance.proofs.Happen.{halts, due_before, due_after}
use Rattle.ac_instance.proofs.machine.quotient.Goals as goal

pub returns-in_err-_argument : goal.returns-in_err-_argument
returns-in_err-_argument c m =
    let p = point c.args.scope.now.params.now c.args.iters.now in
    let event = evaluated c.args.scope.now.side c.args.quot.now.place in
    let h = c.in_err-_argument.field-0.0 in
    let d : IsDue (reached m.limit m.events (event (checked_argument p c.args.quot.now) ∷ [])) h =
    subst (λ o. IsDue (reached m.limit m.events (event o ∷ [])) h) c.argument.ensures.checked (c.in_err-_argument.ensures.steps m) in
    halts m m _ c.from_residual.result h c.from_residual.ensures.1
    (due_before m.limit m.events (event (checked_argument p c.args.quot.now) ∷ []) (event (checked_quot p c.args.quot.now) ∷ []) h d)

pub returns-in_err-_value : goal.returns-in_err-_value
returns-in_err-_value c m =
    let p = point c.args.scope.now.params.now c.args.iters.now in
    let event = evaluated c.args.scope.now.side c.args.quot.now.place in
    let h = c.in_err-_value.field-0.0 in
    let first : Advances m (event (checked_argument p c.args.quot.now) ∷ []) m = subst (λ o. Advances m (event o ∷ []) m) c.argument.ensures.checked (c.in_ok-_argument.ensures.steps m) in
    let d : IsDue (reached m.limit m.events (event (checked_quot p c.args.quot.now) ∷ [])) h =
    subst (λ o. IsDue (reached m.limit m.events (event o ∷ [])) h) c.value.ensures.checked (c.in_err-_value.ensures.steps m) in
    halts m m _ c.from_residual-in_err-_value.result h c.from_residual-in_err-_value.ensures.1
    (due_after m m (event (checked_argument p c.args.quot.now) ∷ []) (event (checked_quot p c.args.quot.now) ∷ []) first h d)
