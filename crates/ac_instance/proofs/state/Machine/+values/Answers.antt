use Rattle.std.proofs.Common.{◌≡◌, ◌+◌, take, drop, map, [], ◌∷◌, ◌++◌, ap, sym, subst, ◌∙◌, IfOk, append-nil, arith, rules, FitsSigned, w64}
use Rattle.std.proofs.lemmas.Int.{to_z-of_z}
use Rattle.std.specs.List.{flat_map}
use Rattle.std.proofs.lemmas.List.{take_more, map-append}
use Rattle.ac_syntax.specs.Algebra.{value_of}
use Rattle.ac_syntax.specs.Index.{point, index_value}
use Rattle.ac_syntax.specs.Term.{Num, Apply, terms, free}
use Rattle.ac_syntax.proofs.Traces.{value_call}
use Rattle.ac_terms.specs.Table.{StandsFor, StandForAll}
use Rattle.ac_terms.proofs.Kept.{StandForAll-kept}
use Rattle.ac_instance.specs.Events.{Event, event, index, in_value}
use Rattle.ac_instance.specs.MachineSteps.{IsDue, Steps}
use Rattle.ac_instance.specs.KeptIds.{cell, leaf_in}
use Rattle.ac_instance.proofs.Happen.{halts, begins, due_after, advance, steps_after, goes_on, due_in_whole, drop_more}
use Rattle.ac_instance.proofs.Values.{term_number, term_access, in_number, in_access, in_call, value_first, StandForAll-push, Holds-kept}
use Rattle.ac_instance.proofs.state.Machine.+values.Goals as goal

pub evaluate-returns-in_err-number-in-Number-clause-steps : goal.evaluate-returns-in_err-number-in-Number-clause-steps
evaluate-returns-in_err-number-in-Number-clause-steps t c =
    let p = point c.args.scope.now.params.now c.args.iters.now in
    let side = c.args.scope.now.side in
    let is = ap (in_value side p) c.in-Number.is ∙ in_number side p c.in-Number.form in
    let h = c.in_err-number-in-Number.field-0.0 in
    let due = due_after c.args.self.now c.count.new.self (event ∷ []) (index side p c.in-Number.form) c.in_ok-count.ensures h (c.in_err-number-in-Number.ensures.steps c.count.new.self) in
    halts c.args.self.now c.count.new.self _ c.from_residual-in_err-number-in-Number.result h c.from_residual-in_err-number-in-Number.ensures.1
    (subst (λ hs. IsDue (Rattle.ac_instance.specs.Events.reached c.args.self.now.limit c.args.self.now.events hs) h) (sym is) due)

pub evaluate-returns-in_err-index-in-Access-clause-steps : goal.evaluate-returns-in_err-index-in-Access-clause-steps
evaluate-returns-in_err-index-in-Access-clause-steps t c =
    let p = point c.args.scope.now.params.now c.args.iters.now in
    let side = c.args.scope.now.side in
    let is = ap (in_value side p) c.in-Access.is ∙ in_access side p c.in-Access.array c.in-Access.subs c.in-Access.place ∙ ap (λ xs. event ∷ flat_map (index side p) xs) (sym c.as_slice.ensures) in
    let h = c.in_err-index-in-Access.field-0.0 in
    let due = due_after c.args.self.now c.count.new.self (event ∷ []) (flat_map (index side p) c.as_slice.result.now) c.in_ok-count.ensures h (c.in_err-index-in-Access.ensures.steps c.count.new.self) in
    halts c.args.self.now c.count.new.self _ c.from_residual-in_err-index-in-Access.result h c.from_residual-in_err-index-in-Access.ensures.1
    (subst (λ hs. IsDue (Rattle.ac_instance.specs.Events.reached c.args.self.now.limit c.args.self.now.events hs) h) (sym is) due)

pub evaluate-returns-in_err-ids-in-Call-clause-steps : goal.evaluate-returns-in_err-ids-in-Call-clause-steps
evaluate-returns-in_err-ids-in-Call-clause-steps t c =
    let p = point c.args.scope.now.params.now c.args.iters.now in
    let side = c.args.scope.now.side in
    let is = ap (in_value side p) c.in-Call.is ∙ in_call side p c.in-Call.symbol c.in-Call.args c.in-Call.place ∙ ap (λ xs. event ∷ flat_map (in_value side p) xs) (sym c.as_slice-in-Call.ensures) in
    let h = c.in_err-ids-in-Call.field-0.0 in
    let due = due_after c.args.self.now c.count.new.self (event ∷ []) (flat_map (in_value side p) c.as_slice-in-Call.result.now) c.in_ok-count.ensures h c.in_err-ids-in-Call.ensures.steps in
    halts c.args.self.now c.evaluate_all.new.self _ c.from_residual-in_err-ids-in-Call.result h c.from_residual-in_err-ids-in-Call.ensures.1
    (subst (λ hs. IsDue (Rattle.ac_instance.specs.Events.reached c.args.self.now.limit c.args.self.now.events hs) h) (sym is) due)

pub evaluate-returns-in_ok-number-in-Number-clause-term : goal.evaluate-returns-in_ok-number-in-Number-clause-term
evaluate-returns-in_ok-number-in-Number-clause-term t c state h =
    let p = point c.args.scope.now.params.now c.args.iters.now in
    let v : FitsSigned w64 c.in_ok-number-in-Number.number = search rules in
    let same = ap Num c.in_ok-number-in-Number.ensures.value ∙ sym (term_number p state c.in-Number.form) ∙ sym (ap (value_of free p state) c.in-Number.is) in
    subst (λ u. IfOk c.number.result (λ id. StandsFor c.number.new.self.table u id)) same (simp to_z-of_z at c.number.ensures.term)

pub evaluate-returns-in_ok-number-in-Number-clause-steps : goal.evaluate-returns-in_ok-number-in-Number-clause-steps
evaluate-returns-in_ok-number-in-Number-clause-steps t c =
    let p = point c.args.scope.now.params.now c.args.iters.now in
    let side = c.args.scope.now.side in
    let is = ap (in_value side p) c.in-Number.is ∙ in_number side p c.in-Number.form in
    let b = c.count.new.self in
    let here = advance c.args.self.now b b (event ∷ []) (index side p c.in-Number.form) c.in_ok-count.ensures (c.in_ok-number-in-Number.ensures.steps b) in
    subst (λ hs. Steps c.args.self.now hs c.number.result c.number.new.self) (append-nil (event ∷ index side p c.in-Number.form) ∙ sym is) (steps_after c.args.self.now b c.number.new.self (event ∷ index side p c.in-Number.form) [] c.number.result here c.number.ensures.steps)

pub evaluate-returns-in_ok-index-in-Access-clause-term : goal.evaluate-returns-in_ok-index-in-Access-clause-term
evaluate-returns-in_ok-index-in-Access-clause-term t c state h =
    let p = point c.args.scope.now.params.now c.args.iters.now in
    let leaf = leaf_in c.args.scope.now.side c.args.scope.now.arrays.now in
    let index = c.in_ok-index-in-Access.ensures.value ∙ ap (map (index_value p)) c.as_slice.ensures in
    let same : state (cell c.in-Access.array c.in_ok-index-in-Access.index.items) ≡ value_of free p state c.args.value.now =
    ap (λ l. state (cell c.in-Access.array l)) index ∙ sym (term_access p state c.in-Access.array c.in-Access.subs c.in-Access.place) ∙ sym (ap (value_of free p state) c.in-Access.is) in
    subst (λ u. IfOk c.load.result (λ id. StandsFor c.load.new.self.table u id)) same
    (c.load.ensures.term state (Holds-kept c.args.self.now.table c.count.new.self.table c.in_ok-count.ensures.kept c.args.cells.now leaf state h))

pub evaluate-returns-in_ok-index-in-Access-clause-steps : goal.evaluate-returns-in_ok-index-in-Access-clause-steps
evaluate-returns-in_ok-index-in-Access-clause-steps t c =
    let p = point c.args.scope.now.params.now c.args.iters.now in
    let side = c.args.scope.now.side in
    let subs = flat_map (index side p) c.as_slice.result.now in
    let is : in_value side p c.args.value.now ≡ event ∷ subs = ap (in_value side p) c.in-Access.is ∙ in_access side p c.in-Access.array c.in-Access.subs c.in-Access.place ∙ ap (λ xs. event ∷ flat_map (index side p) xs) (sym c.as_slice.ensures) in
    let b = c.count.new.self in
    let here = advance c.args.self.now b b (event ∷ []) subs c.in_ok-count.ensures (c.in_ok-index-in-Access.ensures.steps b) in
    subst (λ hs. Steps c.args.self.now hs c.load.result c.load.new.self) (append-nil (event ∷ subs) ∙ sym is) (steps_after c.args.self.now b c.load.new.self (event ∷ subs) [] c.load.result here c.load.ensures.steps)

pub evaluate-returns-in_ok-ids-in-Call-clause-term : goal.evaluate-returns-in_ok-ids-in-Call-clause-term
evaluate-returns-in_ok-ids-in-Call-clause-term t c state h =
    let p = point c.args.scope.now.params.now c.args.iters.now in
    let leaf = leaf_in c.args.scope.now.side c.args.scope.now.arrays.now in
    let f = c.in-Call.symbol in
    let ts = map (value_of free p state) c.as_slice-in-Call.result.now in
    let held = Holds-kept c.args.self.now.table c.count.new.self.table c.in_ok-count.ensures.kept c.args.cells.now leaf state h in
    let stand : StandForAll c.evaluate_all.new.self.table (terms ts) c.deref.result.now =
    subst (StandForAll c.evaluate_all.new.self.table (terms ts)) (sym c.deref.ensures.value) (c.in_ok-ids-in-Call.ensures.term state held) in
    let same : Apply f (terms ts) ≡ value_of free p state c.args.value.now =
    ap (λ es. Apply f (terms (map (value_of free p state) es))) c.as_slice-in-Call.ensures ∙ sym (value_call free p state f c.in-Call.args c.in-Call.place) ∙ sym (ap (value_of free p state) c.in-Call.is) in
    subst (λ u. IfOk c.apply.result (λ id. StandsFor c.apply.new.self.table u id)) same (c.apply.ensures.term (terms ts) stand)

pub evaluate-returns-in_ok-ids-in-Call-clause-steps : goal.evaluate-returns-in_ok-ids-in-Call-clause-steps
evaluate-returns-in_ok-ids-in-Call-clause-steps t c =
    let p = point c.args.scope.now.params.now c.args.iters.now in
    let side = c.args.scope.now.side in
    let args = flat_map (in_value side p) c.as_slice-in-Call.result.now in
    let is : in_value side p c.args.value.now ≡ event ∷ args = ap (in_value side p) c.in-Call.is ∙ in_call side p c.in-Call.symbol c.in-Call.args c.in-Call.place ∙ ap (λ xs. event ∷ flat_map (in_value side p) xs) (sym c.as_slice-in-Call.ensures) in
    let b = c.count.new.self in
    let d = c.evaluate_all.new.self in
    let here = advance c.args.self.now b d (event ∷ []) args c.in_ok-count.ensures c.in_ok-ids-in-Call.ensures.steps in
    subst (λ hs. Steps c.args.self.now hs c.apply.result c.apply.new.self) (append-nil (event ∷ args) ∙ sym is) (steps_after c.args.self.now d c.apply.new.self (event ∷ args) [] c.apply.result here c.apply.ensures.steps)

pub evaluate_all-loop-value-preserved : goal.evaluate_all-loop-value-preserved
evaluate_all-loop-value-preserved t c =
    let x = c.value-item.result in
    let i = c.loop-value.value-index in
    let p = point c.args.scope.now.params.now c.args.iters.now in
    let f = in_value c.args.scope.now.side p in
    let more : take (i + 1) c.args.values.now ≡ take i c.args.values.now ++ x ∷ [] =
    take_more c.args.values.now i x (omega arith) ∙ ap (λ y. take i c.args.values.now ++ y ∷ []) (sym c.value-item.is) in
    let rest = drop_more c.args.values.now i x (omega arith) c.value-item.is in
    let here = c.loop-value.self in
    let next = c.evaluate.new.self in
    record {
      terms = λ state h.
          let leaf = leaf_in c.args.scope.now.side c.args.scope.now.arrays.now in
          let g = value_of free p state in
          let before = StandForAll-kept here.table next.table c.in_ok-id.ensures.steps.kept (terms (map g (take i c.args.values.now))) c.loop-value.ids.items (c.loop-value.invariant.terms state h) in
          let held = Holds-kept c.args.self.now.table here.table c.loop-value.invariant.steps.kept c.args.cells.now leaf state h in
          let pushed = StandForAll-push next.table (map g (take i c.args.values.now)) (g x) c.loop-value.ids.items c.in_ok-id.id before (c.in_ok-id.ensures.term state held) in
          subst (λ ids. StandForAll next.table (terms (map g (take (i + 1) c.args.values.now))) ids) (sym c.in_ok-push.ensures.items)
          (subst (λ es. StandForAll next.table (terms es) (c.loop-value.ids.items ++ c.in_ok-id.id ∷ [])) (sym (ap (map g) more ∙ map-append g (take i c.args.values.now) (x ∷ []))) pushed);
      steps = goes_on c.args.self.now here next (flat_map f c.args.values.now) _ (f x) (flat_map f (drop (i + 1) c.args.values.now)) c.loop-value.invariant.steps (ap (flat_map f) rest) c.in_ok-id.ensures.steps;
    }

pub evaluate-returns-in_err-count-clause-steps : goal.evaluate-returns-in_err-count-clause-steps
evaluate-returns-in_err-count-clause-steps t c =
    let a = c.args.self.now in
    let first = value_first c.args.scope.now.side (point c.args.scope.now.params.now c.args.iters.now) c.args.value.now in
    let h = c.in_err-count.field-0.0 in
    halts a c.count.new.self _ c.from_residual.result h c.from_residual.ensures.1
    (due_in_whole a a _ _ (event ∷ []) first.0 h (begins a _) first.1 c.in_err-count.ensures)

pub evaluate_all-returns-in_err-id-clause-steps : goal.evaluate_all-returns-in_err-id-clause-steps
evaluate_all-returns-in_err-id-clause-steps t c =
    let x = c.value-item.result in
    let i = c.loop-value.value-index in
    let f = in_value c.args.scope.now.side (point c.args.scope.now.params.now c.args.iters.now) in
    let more = drop_more c.args.values.now i x (omega arith) c.value-item.is in
    let h = c.in_err-id.field-0.0 in
    halts c.args.self.now c.evaluate.new.self _ c.from_residual.result h c.from_residual.ensures.1
    (due_in_whole c.args.self.now c.loop-value.self _ _ (f x) (flat_map f (drop (i + 1) c.args.values.now)) h c.loop-value.invariant.steps (ap (flat_map f) more) c.in_err-id.ensures.steps)
