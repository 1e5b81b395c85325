use Rattle.std.proofs.Common.{◌≡◌, [], ◌++◌, List, ℤ, true, map, refl, ap, sym, subst, ◌∙◌, append-nil}
use Rattle.std.proofs.lemmas.Result.{IfOk-weaker}
use Rattle.std.specs.List.{flat_map}
use Rattle.ac_syntax.specs.Index.{point, index_value}
use Rattle.ac_instance.specs.Events.{index, in_elements}
use Rattle.ac_instance.specs.Least.{AgreeAt, IsLeast, beneath, has_none_of}
use Rattle.ac_instance.specs.MachineSteps.{Advances, Steps}
use Rattle.ac_instance.proofs.Elements.{no_events, none_inside, sizes_of, whole}
use Rattle.ac_instance.proofs.Happen.{halts, begins, due_in_whole, steps_after}
use Rattle.ac_instance.proofs.state.Machine.compare.Goals as goal

pub returns-in_err-sizes-clause-steps : goal.returns-in_err-sizes-clause-steps
returns-in_err-sizes-clause-steps c =
    let a = c.args.self.now in
    let p = point c.args.scope.now.params.now [] in
    let h = c.in_err-sizes.field-0.0 in
    halts a a _ c.from_residual.result h c.from_residual.ensures.1
    (due_in_whole a a _ _ (flat_map (index c.args.scope.now.side p) c.args.extents.now) (in_elements (map (index_value p) c.args.extents.now)) h (begins a _) refl (c.in_err-sizes.ensures.steps a))

pub returns-then-has_none-clause-least : goal.returns-then-has_none-clause-least
returns-then-has_none-clause-least c = λ left right hl hr e at.
    let p = point c.args.scope.now.params.now [] in
    let sizes = c.deref.ensures.value ∙ c.in_ok-sizes.ensures.value in
    let none : has_none_of (map (index_value p) c.args.extents.now) ≡ true = ap has_none_of (sym sizes) ∙ sym c.has_none.ensures ∙ c.if-has_none.true in
    absurd (none_inside (map (index_value p) c.args.extents.now) e none (sizes_of p c.args.extents.now e at))

pub returns-then-has_none-clause-steps : goal.returns-then-has_none-clause-steps
returns-then-has_none-clause-steps c =
    let a = c.args.self.now in
    let p = point c.args.scope.now.params.now [] in
    let sizes = c.deref.ensures.value ∙ c.in_ok-sizes.ensures.value in
    let none : has_none_of (map (index_value p) c.args.extents.now) ≡ true = ap has_none_of (sym sizes) ∙ sym c.has_none.ensures ∙ c.if-has_none.true in
    let evaluated = flat_map (index c.args.scope.now.side p) c.args.extents.now in
    subst (λ hs. Advances a hs a) (sym (ap (λ hs. evaluated ++ hs) (no_events (map (index_value p) c.args.extents.now) none) ∙ append-nil evaluated)) (c.in_ok-sizes.ensures.steps a)

pub returns-clause-least : goal.returns-clause-least
returns-clause-least c = λ left right hl hr.
    let p = point c.args.scope.now.params.now [] in
    let agrees = AgreeAt c.args.self.now.table.commutative c.args.runs.now.output left right in
    let sizes = c.deref-2.ensures.value ∙ c.in_ok-sizes.ensures.value in
    IfOk-weaker c.first_beneath.result _ _ (λ o h. whole agrees p c.args.extents.now o (subst (λ (ns : List ℤ). IsLeast (beneath agrees [] ns) o) sizes h)) (c.first_beneath.ensures.least left right hl hr)

pub returns-clause-steps : goal.returns-clause-steps
returns-clause-steps c =
    let a = c.args.self.now in
    let p = point c.args.scope.now.params.now [] in
    let sizes = c.deref-2.ensures.value ∙ c.in_ok-sizes.ensures.value in
    steps_after a a c.first_beneath.new.self (flat_map (index c.args.scope.now.side p) c.args.extents.now) (in_elements (map (index_value p) c.args.extents.now)) c.first_beneath.result (c.in_ok-sizes.ensures.steps a)
    (subst (λ ns. Steps a (in_elements ns) c.first_beneath.result c.first_beneath.new.self) sizes c.first_beneath.ensures.steps)
