use Rattle.std.proofs.Common.{subst, rules, FitsSigned, w64}
use Rattle.std.proofs.lemmas.Int.{to_z-of_z}
use Rattle.ac_syntax.specs.Index.{point, index_value}
use Rattle.ac_instance.specs.Events.{index, divided, reached}
use Rattle.ac_instance.specs.MachineSteps.{IsDue, Advances}
use Rattle.ac_instance.proofs.Happen.{halts, due_before, due_after, advance}
use Rattle.ac_instance.proofs.run.compared.Goals as goal

pub returns-in_err-value-clause-steps : goal.returns-in_err-value-clause-steps
returns-in_err-value-clause-steps c m =
    let p = point c.args.scope.now.params.now c.args.iters.now in
    let side = c.args.scope.now.side in
    let part = c.args.part.now in
    let h = c.in_err-value.field-0.0 in
    halts m m _ c.from_residual.result h c.from_residual.ensures.1
    (due_before m.limit m.events (index side p part.form) (divided side part.form.place part.rel (index_value p part.form)) h (c.in_err-value.ensures.steps m))

pub returns-in_err-divided-clause-steps : goal.returns-in_err-divided-clause-steps
returns-in_err-divided-clause-steps c m =
    let p = point c.args.scope.now.params.now c.args.iters.now in
    let side = c.args.scope.now.side in
    let part = c.args.part.now in
    let h = c.in_err-divided.field-0.0 in
    let v : FitsSigned w64 c.in_ok-value.value = search rules in
    let due = simp to_z-of_z at (c.in_err-divided.ensures m) in
    let d : IsDue (reached m.limit m.events (divided side part.form.place part.rel (index_value p part.form))) h =
    subst (λ z. IsDue (reached m.limit m.events (divided side part.form.place part.rel z)) h) c.in_ok-value.ensures.value due in
    halts m m _ c.from_residual-in_err-divided.result h c.from_residual-in_err-divided.ensures.1
    (due_after m m (index side p part.form) (divided side part.form.place part.rel (index_value p part.form)) (c.in_ok-value.ensures.steps m) h d)

pub returns-clause-steps : goal.returns-clause-steps
returns-clause-steps c m =
    let p = point c.args.scope.now.params.now c.args.iters.now in
    let side = c.args.scope.now.side in
    let part = c.args.part.now in
    let v : FitsSigned w64 c.in_ok-value.value = search rules in
    let done = simp to_z-of_z at (c.in_ok-divided.ensures m) in
    let d : Advances m (divided side part.form.place part.rel (index_value p part.form)) m =
    subst (λ z. Advances m (divided side part.form.place part.rel z) m) c.in_ok-value.ensures.value done in
    advance m m m (index side p part.form) (divided side part.form.place part.rel (index_value p part.form)) (c.in_ok-value.ensures.steps m) d
