use Rattle.std.proofs.Common.{◌≡◌, [], ◌++◌, ℕ, List, length, ap, sym, subst, ◌∙◌}
use Rattle.ac_syntax.specs.Index.{point}
use Rattle.ac_syntax.specs.ReadyPrograms.{ReadyAll}
use Rattle.ac_syntax.specs.Sameness.{term}
use Rattle.ac_instance.specs.declared.halt.Side.TheVariants.{Left, Right}
use Rattle.ac_instance.specs.ComparisonAnswers.{in_outputs}
use Rattle.ac_instance.specs.Events.{in_all, reached}
use Rattle.ac_instance.specs.KeptIds.{leaf_in}
use Rattle.ac_instance.specs.MachineSteps.{IsDue, Advances}
use Rattle.ac_instance.proofs.Happen.{due_before, due_after, advance}
use Rattle.ac_instance.proofs.Outcomes.{ran_halts, from_start, answered}
use Rattle.ac_instance.proofs.Values.{Holds-kept}
use Rattle.ac_instance.proofs.both.within_context.Goals as goal

pub returns-in_err-left : goal.returns-in_err-left
returns-in_err-left c = λ bodies.
    let pair = c.args.pair.now in
    let v = c.args.valuation.now in
    let p = point v [] in
    let limit = c.args.limit in
    let z = c.in_ok-machine.machine in
    let L = in_all Left p pair.left.body in
    let R = in_all Right p pair.right.body in
    let O = in_outputs Left p pair.left.arrays pair.outputs in
    let h = c.in_err-left.field-0.0 in
    let ready = subst (ReadyAll (length v) 0) (sym c.as_slice-2.ensures) bodies.left in
    let d : IsDue (reached z.limit z.events L) h = subst (λ b. IsDue (reached z.limit z.events (in_all Left p b)) h) c.as_slice-2.ensures (c.in_err-left.ensures.steps ready) in
    ran_halts pair v limit c.from_residual-in_err-left.result h c.from_residual-in_err-left.ensures.1 (from_start pair v limit z h c.in_ok-machine.ensures.limit c.in_ok-machine.ensures.events (due_before z.limit z.events (L ++ R) O h (due_before z.limit z.events L R h d)))

pub returns-in_err-right : goal.returns-in_err-right
returns-in_err-right c = λ bodies.
    let pair = c.args.pair.now in
    let v = c.args.valuation.now in
    let p = point v [] in
    let limit = c.args.limit in
    let z = c.in_ok-machine.machine in
    let L = in_all Left p pair.left.body in
    let R = in_all Right p pair.right.body in
    let O = in_outputs Left p pair.left.arrays pair.outputs in
    let h = c.in_err-right.field-0.0 in
    let m = c.leave.new.self in
    let ready = subst (ReadyAll (length v) 0) (sym c.as_slice-2.ensures) bodies.left in
    let ready_right = subst (ReadyAll (length v) 0) (sym c.as_slice-3.ensures) bodies.right in
    let first = subst (λ b. Advances z (in_all Left p b) m) c.as_slice-2.ensures (c.in_ok-left.ensures.steps ready) in
    let d : IsDue (reached m.limit m.events R) h = subst (λ b. IsDue (reached m.limit m.events (in_all Right p b)) h) c.as_slice-3.ensures (c.in_err-right.ensures.steps ready_right) in
    ran_halts pair v limit c.from_residual-in_err-right.result h c.from_residual-in_err-right.ensures.1 (from_start pair v limit z h c.in_ok-machine.ensures.limit c.in_ok-machine.ensures.events (due_before z.limit z.events (L ++ R) O h (due_after z m L R first h d)))

pub returns-in_err-outcomes : goal.returns-in_err-outcomes
returns-in_err-outcomes c = λ bodies.
    let pair = c.args.pair.now in
    let v = c.args.valuation.now in
    let p = point v [] in
    let limit = c.args.limit in
    let z = c.in_ok-machine.machine in
    let L = in_all Left p pair.left.body in
    let R = in_all Right p pair.right.body in
    let O = in_outputs Left p pair.left.arrays pair.outputs in
    let h = c.in_err-outcomes.field-0.0 in
    let m = c.leave.new.self in
    let n = c.leave-2.new.self in
    let ready = subst (ReadyAll (length v) 0) (sym c.as_slice-2.ensures) bodies.left in
    let ready_right = subst (ReadyAll (length v) 0) (sym c.as_slice-3.ensures) bodies.right in
    let first = subst (λ b. Advances z (in_all Left p b) m) c.as_slice-2.ensures (c.in_ok-left.ensures.steps ready) in
    let second = subst (λ b. Advances m (in_all Right p b) n) c.as_slice-3.ensures (c.in_ok-right.ensures.steps ready_right) in
    let d : IsDue (reached n.limit n.events O) h = subst (λ a. IsDue (reached n.limit n.events (in_outputs Left p a pair.outputs)) h) c.as_slice-arrays.ensures
    (subst (λ os. IsDue (reached n.limit n.events (in_outputs Left p c.as_slice-arrays.result.now os)) h) c.as_slice-4.ensures c.in_err-outcomes.ensures.steps) in
    ran_halts pair v limit c.from_residual-in_err-outcomes.result h c.from_residual-in_err-outcomes.ensures.1 (from_start pair v limit z h c.in_ok-machine.ensures.limit c.in_ok-machine.ensures.events (due_after z n (L ++ R) O (advance z m n L R first second) h d))

pub returns : goal.returns
returns c = λ bodies.
    let pair = c.args.pair.now in
    let v = c.args.valuation.now in
    let p = point v [] in
    let z = c.in_ok-machine.machine in
    let L = in_all Left p pair.left.body in
    let R = in_all Right p pair.right.body in
    let O = in_outputs Left p pair.left.arrays pair.outputs in
    let m = c.leave.new.self in
    let n = c.leave-2.new.self in
    let o = c.compare_all.new.self in
    let arrays = c.as_slice-arrays.result.now in
    let ready = subst (ReadyAll (length v) 0) (sym c.as_slice-2.ensures) bodies.left in
    let ready_right = subst (ReadyAll (length v) 0) (sym c.as_slice-3.ensures) bodies.right in
    let first = subst (λ b. Advances z (in_all Left p b) m) c.as_slice-2.ensures (c.in_ok-left.ensures.steps ready) in
    let second = subst (λ b. Advances m (in_all Right p b) n) c.as_slice-3.ensures (c.in_ok-right.ensures.steps ready_right) in
    let third = subst (λ a. Advances n (in_outputs Left p a pair.outputs) o) c.as_slice-arrays.ensures
    (subst (λ os. Advances n (in_outputs Left p arrays os) o) c.as_slice-4.ensures c.in_ok-outcomes.ensures.steps) in
    let all = advance z n o (L ++ R) O (advance z m n L R first second) third in
    let l = term c.as_slice-2.result.now v (leaf_in Left arrays) in
    let r = term c.as_slice-3.result.now v (leaf_in Right arrays) in
    let hl = Holds-kept m.table n.table second.kept c.in_ok-left.left (leaf_in Left arrays) l (c.in_ok-left.ensures.ran ready) in
    let hr = c.in_ok-right.ensures.ran ready_right in
    let names = second.names ∙ first.names ∙ c.in_ok-machine.ensures.names ∙ c.as_slice.ensures in (
      sym (λ i. reached (c.in_ok-machine.ensures.limit i) (c.in_ok-machine.ensures.events i) (L ++ R ++ O)) ∙ all.events,
      answered pair v n.table.commutative arrays c.as_slice-2.result.now c.as_slice-3.result.now c.as_slice-4.result.now c.in_ok-outcomes.outcomes
          names c.as_slice-arrays.ensures c.as_slice-2.ensures c.as_slice-3.ensures c.as_slice-4.ensures (c.in_ok-outcomes.ensures.outcomes l r hl hr),
    )
