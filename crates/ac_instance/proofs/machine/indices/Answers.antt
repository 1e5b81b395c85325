use Rattle.std.proofs.Common.{◌≡◌, ◌+◌, [], ◌∷◌, ◌++◌, drop, take, map, ap, sym, ◌∙◌, arith, rules, FitsSigned, w64}
use Rattle.std.proofs.lemmas.Int.{to_z-of_z}
use Rattle.std.proofs.lemmas.List.{take_more, map-append}
use Rattle.std.specs.List.{flat_map}
use Rattle.ac_syntax.specs.Index.{point, index_value}
use Rattle.ac_instance.specs.Events.{index}
use Rattle.ac_instance.proofs.Happen.{halts, goes_on, due_in_whole, drop_more}
use Rattle.ac_instance.proofs.machine.indices.Goals as goal

pub returns-in_err-value-clause-steps : goal.returns-in_err-value-clause-steps
returns-in_err-value-clause-steps c m =
    let p = point c.args.scope.now.params.now c.args.iters.now in
    let side = c.args.scope.now.side in
    let x = c.sub-item.result in
    let i = c.loop-sub.sub-index in
    let more = drop_more c.args.subs.now i x (omega arith) c.sub-item.is in
    let h = c.in_err-value.field-0.0 in
    halts m m _ c.from_residual.result h c.from_residual.ensures.1
    (due_in_whole m m _ _ (index side p x) (flat_map (index side p) (drop (i + 1) c.args.subs.now)) h (c.loop-sub.invariant.steps m) (ap (flat_map (index side p)) more) (c.in_err-value.ensures.steps m))

pub loop-sub-preserved : goal.loop-sub-preserved
loop-sub-preserved c =
    let p = point c.args.scope.now.params.now c.args.iters.now in
    let side = c.args.scope.now.side in
    let x = c.sub-item.result in
    let i = c.loop-sub.sub-index in
    let subs = c.args.subs.now in
    let more = drop_more subs i x (omega arith) c.sub-item.is in
    let taken : take (i + 1) subs ≡ take i subs ++ x ∷ [] = take_more subs i x (omega arith) ∙ ap (λ y. take i subs ++ y ∷ []) (sym c.sub-item.is) in
    let v : FitsSigned w64 c.in_ok-value.value = search rules in
    record {
      value = (simp to_z-of_z at c.in_ok-push.ensures.items) ∙ ap (λ xs. xs ++ c.in_ok-value.value ∷ []) c.loop-sub.invariant.value ∙ ap (λ v. map (index_value p) (take i subs) ++ v ∷ []) c.in_ok-value.ensures.value
          ∙ sym (ap (map (index_value p)) taken ∙ map-append (index_value p) (take i subs) (x ∷ []));
      steps = λ m. goes_on m m m _ _ (index side p x) (flat_map (index side p) (drop (i + 1) subs)) (c.loop-sub.invariant.steps m) (ap (flat_map (index side p)) more) (c.in_ok-value.ensures.steps m);
    }
