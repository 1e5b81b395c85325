use Rattle.std.proofs.Common.{◌≡◌, ◌+◌, [], ◌∷◌, ◌++◌, take, drop, get_or, ℕ, List, ap, sym, subst, ◌∙◌, arith}
use Rattle.std.proofs.lemmas.List.{take_more, take_all}
use Rattle.ac_syntax.specs.Index.{point}
use Rattle.ac_syntax.specs.Outputs.{extents_at}
use Rattle.ac_instance.specs.declared.halt.Side.TheVariants.{Left, Right}
use Rattle.ac_instance.specs.ComparisonAnswers.{in_outputs, AreOutcomes, outcome_of, IsOutcome}
use Rattle.ac_instance.specs.Events.{in_output}
use Rattle.ac_instance.specs.KeptIds.{leaf_in}
use Rattle.ac_instance.specs.Least.{AgreeAt, IsLeast, Looked, throughout}
use Rattle.ac_instance.specs.MachineSteps.{IsDue, Advances}
use Rattle.ac_instance.proofs.Happen.{item_at, halts, goes_on, due_in_whole, drop_more}
use Rattle.ac_instance.proofs.Outcomes.{one_more_outcome, as_outcome}
use Rattle.ac_instance.proofs.Values.{Holds-kept}
use Rattle.ac_instance.proofs.state.Machine.compare_all.Goals as goal

pub returns-in_err-found-clause-steps : goal.returns-in_err-found-clause-steps
returns-in_err-found-clause-steps c =
    let p = point c.args.scope.now.params.now [] in
    let side = c.args.scope.now.side in
    let arrays = c.args.scope.now.arrays.now in
    let i = c.loop-output.output-index in
    let x = get_or c.args.outputs.now i 0 in
    let more = drop_more c.args.outputs.now i x (omega arith) (item_at c.args.outputs.now i 0 x (omega arith)) in
    let here = c.loop-output.self in
    let h = c.in_err-found.field-0.0 in
    halts c.args.self.now c.compare.new.self _ c.from_residual.result h c.from_residual.ensures.1
    (due_in_whole c.args.self.now here _ _ (in_output side p (extents_at arrays x)) (in_outputs side p arrays (drop (i + 1) c.args.outputs.now)) h c.loop-output.invariant.steps (ap (in_outputs side p arrays) more)
    (subst (λ es. IsDue (Rattle.ac_instance.specs.Events.reached here.limit here.events (in_output side p es)) h) c.extents.ensures c.in_err-found.ensures.steps))

pub loop-output-preserved : goal.loop-output-preserved
loop-output-preserved c =
    let a = c.args.self.now in
    let p = point c.args.scope.now.params.now [] in
    let side = c.args.scope.now.side in
    let arrays = c.args.scope.now.arrays.now in
    let i = c.loop-output.output-index in
    let x = get_or c.args.outputs.now i 0 in
    let outputs = c.args.outputs.now in
    let more = drop_more outputs i x (omega arith) (item_at outputs i 0 x (omega arith)) in
    let taken : take (i + 1) outputs ≡ take i outputs ++ x ∷ [] = take_more outputs i x (omega arith) ∙ ap (λ y. take i outputs ++ y ∷ []) (sym (item_at outputs i 0 x (omega arith))) in
    let here = c.loop-output.self in
    let next = c.compare.new.self in
    record {
      steps = goes_on a here next _ _ (in_output side p (extents_at arrays x)) (in_outputs side p arrays (drop (i + 1) outputs)) c.loop-output.invariant.steps (ap (in_outputs side p arrays) more)
          (subst (λ es. Advances here (in_output side p es) next) c.extents.ensures c.in_ok-found.ensures.steps);
      outcomes = λ left right hl hr.
          let kept = c.loop-output.invariant.steps.kept in
          let l = Holds-kept a.table here.table kept c.args.left.now (leaf_in Left arrays) left hl in
          let r = Holds-kept a.table here.table kept c.args.right.now (leaf_in Right arrays) right hr in
          let looked : ℕ → Looked = λ o. throughout (AgreeAt a.table.commutative o left right) p (extents_at arrays o) in
          let found = subst (λ es. IsLeast (throughout (AgreeAt here.table.commutative x left right) p es) c.in_ok-found.found) c.extents.ensures (c.in_ok-found.ensures.least left right l r) in
          let least = subst (λ ns. IsLeast (throughout (AgreeAt ns x left right) p (extents_at arrays x)) c.in_ok-found.found) c.loop-output.invariant.steps.names found in
          let pushed = one_more_outcome looked (take i outputs) c.loop-output.outcomes x (outcome_of c.in_ok-found.found) (c.loop-output.invariant.outcomes left right hl hr) (as_outcome (looked x) c.in_ok-found.found least) in
          subst (λ rs. AreOutcomes looked (take (i + 1) outputs) rs) (sym (c.in_ok-push.ensures.ok ∙ ap (λ z. c.loop-output.outcomes ++ z ∷ []) c.outcome.ensures))
          (subst (λ os. AreOutcomes looked os (c.loop-output.outcomes ++ outcome_of c.in_ok-found.found ∷ [])) (sym taken) pushed);
    }

pub returns-clause-outcomes : goal.returns-clause-outcomes
returns-clause-outcomes c = λ left right hl hr.
    let p = point c.args.scope.now.params.now [] in
    let arrays = c.args.scope.now.arrays.now in
    let looked : ℕ → Looked = λ o. throughout (AgreeAt c.args.self.now.table.commutative o left right) p (extents_at arrays o) in
    subst (λ (os : List ℕ). AreOutcomes looked os c.loop-output.outcomes) (take_all c.loop-output.output-index c.args.outputs.now (omega arith)) (c.loop-output.invariant.outcomes left right hl hr)
