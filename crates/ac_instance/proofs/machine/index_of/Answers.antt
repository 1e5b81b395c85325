use Rattle.std.proofs.Common.{◌∷◌, [], subst}
use Rattle.std.specs.List.{flat_map}
use Rattle.ac_syntax.specs.CheckedArithmetic.{checked_value}
use Rattle.ac_syntax.specs.Index.{point}
use Rattle.ac_instance.specs.Events.{evaluated, quotient, reached}
use Rattle.ac_instance.specs.MachineSteps.{IsDue, Advances}
use Rattle.ac_instance.proofs.Happen.{halts, due_before, due_after, advance}
use Rattle.ac_instance.proofs.machine.index_of.Goals as goal

pub returns-in_err-quotients-clause-steps : goal.returns-in_err-quotients-clause-steps
returns-in_err-quotients-clause-steps c m =
    let p = point c.args.scope.now.params.now c.args.iters.now in
    let side = c.args.scope.now.side in
    let h = c.in_err-quotients.field-0.0 in
    let quots = flat_map (quotient side p) c.args.form.now.quots in
    let d : IsDue (reached m.limit m.events quots) h = subst (λ qs. IsDue (reached m.limit m.events (flat_map (quotient side p) qs)) h) c.as_slice.ensures (c.in_err-quotients.ensures m) in
    halts m m _ c.from_residual.result h c.from_residual.ensures.1 (due_before m.limit m.events quots (evaluated side c.args.form.now.place (checked_value p c.args.form.now) ∷ []) h d)

pub returns-in_err-value-clause-steps : goal.returns-in_err-value-clause-steps
returns-in_err-value-clause-steps c m =
    let p = point c.args.scope.now.params.now c.args.iters.now in
    let side = c.args.scope.now.side in
    let event = evaluated side c.args.form.now.place in
    let h = c.in_err-value.field-0.0 in
    let quots = flat_map (quotient side p) c.args.form.now.quots in
    let first : Advances m quots m = subst (λ qs. Advances m (flat_map (quotient side p) qs) m) c.as_slice.ensures (c.in_ok-quotients.ensures m) in
    let d : IsDue (reached m.limit m.events (event (checked_value p c.args.form.now) ∷ [])) h =
    subst (λ o. IsDue (reached m.limit m.events (event o ∷ [])) h) c.value.ensures.checked (c.in_err-value.ensures.steps m) in
    halts m m _ c.from_residual-in_err-value.result h c.from_residual-in_err-value.ensures.1 (due_after m m quots (event (checked_value p c.args.form.now) ∷ []) first h d)

pub returns-clause-steps : goal.returns-clause-steps
returns-clause-steps c m =
    let p = point c.args.scope.now.params.now c.args.iters.now in
    let side = c.args.scope.now.side in
    let event = evaluated side c.args.form.now.place in
    let quots = flat_map (quotient side p) c.args.form.now.quots in
    let first : Advances m quots m = subst (λ qs. Advances m (flat_map (quotient side p) qs) m) c.as_slice.ensures (c.in_ok-quotients.ensures m) in
    let second : Advances m (event (checked_value p c.args.form.now) ∷ []) m = subst (λ o. Advances m (event o ∷ []) m) c.value.ensures.checked (c.in_ok-value.ensures.steps m) in
    advance m m m quots (event (checked_value p c.args.form.now) ∷ []) first second
