use Rattle.std.proofs.Common.{◌≡◌, ◌∙◌, ◌++◌, ◌+◌, ◌∷◌, [], ap, drop, length, sym}
use Rattle.ac_widen.specs.declared.derivation.Entry.{Entry}
use Rattle.ac_widen.specs.declared.derivation.Reason.TheVariants.{Step}
use Rattle.ac_walk_state.specs.PathEntries.{by_reason, steps_from}
use Rattle.ac_walk_state.proofs.Entered.{steps_all, steps_first, steps_more}
use Rattle.ac_walk_state.proofs.entering.with_steps.Goals as goal

pub loop-step-init : goal.loop-step-init
loop-step-init c = steps_first c.args.entries c.args.from _ c.args.steps.now

pub loop-step-preserved : goal.loop-step-preserved
loop-step-preserved c =
    let steps = c.args.steps.now in
    let i = c.loop-step.step-index in
    let old = c.loop-step.all in
    let new = c.push.new.self in
    let x = c.step-item.result in
    let is : new ≡ old ++ by_reason x (Step c.loop-step.from) ∷ [] = c.in_ok-push.ensures.ok ∙ ap (λ (e : Entry). old ++ e ∷ []) c.in_ok-by_reason.ensures in
    c.loop-step.invariant ∙ steps_more old new c.loop-step.from steps i x c.loop-step-test.true c.step-item.is is ∙ ap (λ n. new ++ steps_from n (length new) (drop (i + 1) steps)) (sym c.len-next.ensures)

pub returns : goal.returns
returns c = sym (c.loop-step.invariant ∙ steps_all c.loop-step.all c.loop-step.from _ c.args.steps.now c.loop-step.step-index c.loop-step-test.false)
