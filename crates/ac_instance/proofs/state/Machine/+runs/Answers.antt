use Rattle.std.proofs.Common.{◌≡◌, ◌+◌, List, pos, drop, map, [], ◌∷◌, ◌++◌, ◌+ℤ◌, Some, false, true, refl, ap, sym, subst, ◌∙◌, OnOk, length, sum_by, cond, append-nil, arith, rules, FitsSigned, to_z, w64, if◌then◌else◌}
use Rattle.std.specs.List.{flat_map, range_with_len, list_all}
use Rattle.std.proofs.lemmas.Int.{to_z-of_z}
use Rattle.std.proofs.lemmas.List.{drop_all}
use Rattle.ac_syntax.specs.Algebra.{Cell, run, value_of, store}
use Rattle.ac_syntax.specs.Index.{Point, point, index_value, holds, comparison_holds}
use Rattle.ac_syntax.specs.ReadyPrograms.{ReadyAll, Ready}
use Rattle.ac_syntax.specs.Term.{Term, free}
use Rattle.ac_syntax.specs.Trace.{trace, trace_all, assignments, each_turn}
use Rattle.ac_syntax.specs.Turns.{inside, iterator_at}
use Rattle.ac_syntax.proofs.ReadyAt.{ready_for, ready_if}
use Rattle.ac_syntax.proofs.TraceSteps.{trace_if, trace_assign}
use Rattle.ac_syntax.proofs.TurnEntries.{in_turn_of, turns_listed}
use Rattle.ac_syntax.proofs.Traces.{trace_for}
use Rattle.ac_syntax.proofs.Walking.{walk_first, walk_next, walk_done}
use Rattle.ac_instance.specs.Events.{Event, event, evaluated, index, reached, in_value, in_test, in_all, in_stmt, in_loop}
use Rattle.ac_instance.specs.MachineSteps.{IsDue, Advances, Steps}
use Rattle.ac_instance.specs.KeptIds.{cell, leaf_in, Holds}
use Rattle.ac_instance.proofs.Happen.{halts, begins, advance, steps_after, goes_on, ends, due_in_whole, drop_more, never_falls, counts_one}
use Rattle.ac_instance.proofs.Values.{Holds-kept, Holds-after, on_ok}
use Rattle.ac_instance.proofs.Turning.{later, turns_left, all_left, none_left, turn_parts, test_left, one_more, test_at, holds_at, body_at, ready_inside, ran_more, ran_one, in_for, in_if, in_assign}
use Rattle.ac_instance.proofs.state.Machine.+runs.Goals as goal

pub repeat-returns-in_err-x-clause-steps : goal.repeat-returns-in_err-x-clause-steps
repeat-returns-in_err-x-clause-steps t c = λ b r.
    let a = c.args.self.now in
    let p = point c.args.scope.now.params.now c.args.iters.now in
    let side = c.args.scope.now.side in
    let body : Point → List Event = λ q. in_all side q c.args.body.now in
    let h = c.in_err-x.field-0.0 in
    halts a a _ c.from_residual.result h c.from_residual.ensures.1
    (due_in_whole a a _ _ (index side p c.args.head.now.start.now) (turns_left side body p c.args.head.now.start.now c.args.head.now.cond.now c.args.head.now.step c.args.head.now.place 0) h (begins a _)
    (all_left side body p c.args.head.now.start.now c.args.head.now.cond.now c.args.head.now.step c.args.head.now.place) (c.in_err-x.ensures.steps a))

pub repeat-loop-turn-init : goal.repeat-loop-turn-init
repeat-loop-turn-init t c =
    let a = c.args.self.now in
    let p = point c.args.scope.now.params.now c.args.iters.now in
    let side = c.args.scope.now.side in
    let body : Point → List Event = λ q. in_all side q c.args.body.now in
    let f : FitsSigned w64 c.in_ok-x.x = search rules in
    simp to_z-of_z (record {
      walking = walk_first p c.args.head.now.start.now c.args.head.now.cond.now c.args.head.now.step c.in_ok-x.x c.in_ok-x.ensures.value;
      grows = λ b r. omega arith;
      within = λ b. omega arith;
      steps = λ b r. goes_on a a a _ _ (index side p c.args.head.now.start.now) (turns_left side body p c.args.head.now.start.now c.args.head.now.cond.now c.args.head.now.step c.args.head.now.place 0) (begins a _)
          (all_left side body p c.args.head.now.start.now c.args.head.now.cond.now c.args.head.now.step c.args.head.now.place) (c.in_ok-x.ensures.steps a);
      ran = λ b r first counters state h. h;
    })

pub run_all-loop-stmt-init : goal.run_all-loop-stmt-init
run_all-loop-stmt-init t c = record { ready = λ r. r; steps = λ r. begins _ _; ran = λ r first counters state h. (first, state, h, refl) }

pub run_all-returns-in_err-run_one-clause-steps : goal.run_all-returns-in_err-run_one-clause-steps
run_all-returns-in_err-run_one-clause-steps t c = λ r.
    let x = c.stmt-item.result in
    let i = c.loop-stmt.stmt-index in
    let p = point c.args.scope.now.params.now c.args.iters.now in
    let side = c.args.scope.now.side in
    let more = drop_more c.args.stmts.now i x (omega arith) c.stmt-item.is in
    let ready = subst (ReadyAll (length p.params) (length p.iters)) more (c.loop-stmt.invariant.ready r) in
    let h = c.in_err-run_one.field-0.0 in
    halts c.args.self.now c.run_one.new.self _ c.from_residual.result h c.from_residual.ensures.1
    (due_in_whole c.args.self.now c.loop-stmt.self _ _ (in_stmt side p x) (in_all side p (drop (i + 1) c.args.stmts.now)) h (c.loop-stmt.invariant.steps r) (ap (in_all side p) more) (c.in_err-run_one.ensures.steps ready.0))

pub run_all-loop-stmt-preserved : goal.run_all-loop-stmt-preserved
run_all-loop-stmt-preserved t c =
    let x = c.stmt-item.result in
    let i = c.loop-stmt.stmt-index in
    let p = point c.args.scope.now.params.now c.args.iters.now in
    let side = c.args.scope.now.side in
    let rest = drop (i + 1) c.args.stmts.now in
    let more = drop_more c.args.stmts.now i x (omega arith) c.stmt-item.is in
    record {
      ready = λ r. (subst (ReadyAll (length p.params) (length p.iters)) more (c.loop-stmt.invariant.ready r)).1;
      steps = λ r. goes_on c.args.self.now c.loop-stmt.self c.run_one.new.self _ _ (in_stmt side p x) (in_all side p rest) (c.loop-stmt.invariant.steps r) (ap (in_all side p) more)
          (c.in_ok-run_one.ensures.steps (subst (ReadyAll (length p.params) (length p.iters)) more (c.loop-stmt.invariant.ready r)).0);
      ran = λ r first counters state h.
          let ready = subst (ReadyAll (length p.params) (length p.iters)) more (c.loop-stmt.invariant.ready r) in
          let j = c.loop-stmt.invariant.ran r first counters state h in (
            j.0 + assignments x,
            run free (trace x j.0 p counters) j.1,
            c.in_ok-run_one.ensures.ran ready.0 j.0 counters j.1 j.2,
            j.3 ∙ ap (λ ss. run free (trace_all ss j.0 p counters) j.1) more ∙ ran_one x rest j.0 p counters j.1,
          );
    }

pub run_one-returns-in-For-clause-steps : goal.run_one-returns-in-For-clause-steps
run_one-returns-in-For-clause-steps t c = λ r.
    let p = point c.args.scope.now.params.now c.args.iters.now in
    let side = c.args.scope.now.side in
    let s : FitsSigned w64 c.in-For.step = search rules in
    let q = ready_for (length p.params) (length p.iters) c.in-For.iter c.in-For.start c.in-For.cond c.in-For.step c.in-For.body c.in-For.place (subst (Ready (length p.params) (length p.iters)) c.in-For.is r) in
    let is = ap (λ ss. in_loop side (λ z. in_all side z ss) p c.in-For.start c.in-For.cond c.in-For.step c.in-For.place) c.as_slice.ensures
    ∙ sym (ap (in_stmt side p) c.in-For.is ∙ in_for side p c.in-For.iter c.in-For.start c.in-For.cond c.in-For.step c.in-For.body c.in-For.place) in
    subst (λ hs. Steps c.args.self.now hs c.repeat.result c.repeat.new.self) is ((simp to_z-of_z at c.repeat.ensures.steps) q.3 (subst (ReadyAll (length p.params) (length p.iters + 1)) (sym c.as_slice.ensures) q.4))

pub run_one-returns-in-For-clause-ran : goal.run_one-returns-in-For-clause-ran
run_one-returns-in-For-clause-ran t c = λ r first counters state h.
    let p = point c.args.scope.now.params.now c.args.iters.now in
    let leaf = leaf_in c.args.scope.now.side c.args.scope.now.arrays.now in
    let s : FitsSigned w64 c.in-For.step = search rules in
    let q = ready_for (length p.params) (length p.iters) c.in-For.iter c.in-For.start c.in-For.cond c.in-For.step c.in-For.body c.in-For.place (subst (Ready (length p.params) (length p.iters)) c.in-For.is r) in
    let is = ap (λ ss. each_turn (trace_all ss first) p c.in-For.start c.in-For.cond c.in-For.step counters) c.as_slice.ensures
    ∙ sym (ap (λ z. trace z first p counters) c.in-For.is ∙ trace_for c.in-For.iter c.in-For.start c.in-For.cond c.in-For.step c.in-For.body c.in-For.place first p counters) in
    subst (λ es. OnOk c.repeat.result (Holds c.repeat.new.self.table c.repeat.new.cells leaf (run free es state))) is
    ((simp to_z-of_z at c.repeat.ensures.ran) q.3 (subst (ReadyAll (length p.params) (length p.iters + 1)) (sym c.as_slice.ensures) q.4) first counters state h)

pub repeat-returns-in_err-test-clause-steps : goal.repeat-returns-in_err-test-clause-steps
repeat-returns-in_err-test-clause-steps t c = λ b r.
    let a = c.args.self.now in
    let here = c.loop-turn.self in
    let p = point c.args.scope.now.params.now c.args.iters.now in
    let side = c.args.scope.now.side in
    let body : Point → List Event = λ q. in_all side q c.args.body.now in
    let start = c.args.head.now.start.now in
    let cond = c.args.head.now.cond.now in
    let step = c.args.head.now.step in
    let place = c.args.head.now.place in
    let k = c.loop-turn._turn in
    let x = to_z w64 c.loop-turn.x-bits in
    let inv = c.loop-turn.invariant in
    let it = iterator_at (index_value p start) step k in
    let its = c.deref.ensures.value ∙ c.in_ok-at.ensures in
    let test = in_test side (inside p it) cond.parts in
    let same = test_at side p cond c.as_slice.result.now c.deref.result.now x it c.as_slice.ensures its inv.walking.place in
    let left = test_left side body p start cond step place k (inv.within b) in
    let h = c.in_err-test.field-0.0 in
    halts a here _ c.from_residual-in_err-test.result h c.from_residual-in_err-test.ensures.1
    (due_in_whole a here _ _ test left.0 h (inv.steps b r) left.1 (subst (λ hs. IsDue (reached here.limit here.events hs) h) same (c.in_err-test.ensures.steps here)))

pub repeat-returns-then-not-branch-clause-steps : goal.repeat-returns-then-not-branch-clause-steps
repeat-returns-then-not-branch-clause-steps t c = λ b r.
    let a = c.args.self.now in
    let here = c.loop-turn.self in
    let p = point c.args.scope.now.params.now c.args.iters.now in
    let side = c.args.scope.now.side in
    let body : Point → List Event = λ q. in_all side q c.args.body.now in
    let start = c.args.head.now.start.now in
    let cond = c.args.head.now.cond.now in
    let step = c.args.head.now.step in
    let place = c.args.head.now.place in
    let k = c.loop-turn._turn in
    let x = to_z w64 c.loop-turn.x-bits in
    let inv = c.loop-turn.invariant in
    let it = iterator_at (index_value p start) step k in
    let its = c.deref.ensures.value ∙ c.in_ok-at.ensures in
    let test = in_test side (inside p it) cond.parts in
    let same = test_at side p cond c.as_slice.result.now c.deref.result.now x it c.as_slice.ensures its inv.walking.place in
    let no : holds (inside p x) cond ≡ false = sym (c.in_ok-test.ensures.value ∙ holds_at p cond c.as_slice.result.now c.deref.result.now x c.as_slice.ensures its) ∙ c.if-not-branch.true in
    let e = walk_done p start cond step x k (length p.iters) refl b inv.walking no in
    let last = goes_on a here here _ _ test [] (inv.steps b r) (none_left side body p start cond step place k e ∙ sym (append-nil test)) (subst (λ hs. Advances here hs here) same (c.in_ok-test.ensures.steps here)) in
    ends a here _ [] last refl

pub repeat-returns-then-not-branch-clause-ran : goal.repeat-returns-then-not-branch-clause-ran
repeat-returns-then-not-branch-clause-ran t c = λ b r first counters state h.
    let a = c.args.self.now in
    let here = c.loop-turn.self in
    let p = point c.args.scope.now.params.now c.args.iters.now in
    let side = c.args.scope.now.side in
    let body : Point → List Event = λ q. in_all side q c.args.body.now in
    let start = c.args.head.now.start.now in
    let cond = c.args.head.now.cond.now in
    let step = c.args.head.now.step in
    let place = c.args.head.now.place in
    let k = c.loop-turn._turn in
    let x = to_z w64 c.loop-turn.x-bits in
    let inv = c.loop-turn.invariant in
    let it = iterator_at (index_value p start) step k in
    let its = c.deref.ensures.value ∙ c.in_ok-at.ensures in
    let test = in_test side (inside p it) cond.parts in
    let same = test_at side p cond c.as_slice.result.now c.deref.result.now x it c.as_slice.ensures its inv.walking.place in
    let no : holds (inside p x) cond ≡ false = sym (c.in_ok-test.ensures.value ∙ holds_at p cond c.as_slice.result.now c.deref.result.now x c.as_slice.ensures its) ∙ c.if-not-branch.true in
    let e = walk_done p start cond step x k (length p.iters) refl b inv.walking no in
    let leaf = leaf_in side c.args.scope.now.arrays.now in
    subst (λ es. Holds here.table c.loop-turn.cells leaf (run free es state)) (turns_listed c.args.body.now first p start cond step counters k e) (inv.ran b r first counters state h)

pub repeat-returns-in_err-count-clause-steps : goal.repeat-returns-in_err-count-clause-steps
repeat-returns-in_err-count-clause-steps t c = λ b r.
    let a = c.args.self.now in
    let here = c.loop-turn.self in
    let p = point c.args.scope.now.params.now c.args.iters.now in
    let side = c.args.scope.now.side in
    let body : Point → List Event = λ q. in_all side q c.args.body.now in
    let start = c.args.head.now.start.now in
    let cond = c.args.head.now.cond.now in
    let step = c.args.head.now.step in
    let place = c.args.head.now.place in
    let k = c.loop-turn._turn in
    let x = to_z w64 c.loop-turn.x-bits in
    let inv = c.loop-turn.invariant in
    let it = iterator_at (index_value p start) step k in
    let its = c.deref.ensures.value ∙ c.in_ok-at.ensures in
    let test = in_test side (inside p it) cond.parts in
    let same = test_at side p cond c.as_slice.result.now c.deref.result.now x it c.as_slice.ensures its inv.walking.place in
    let yes : holds (inside p x) cond ≡ true = sym (c.in_ok-test.ensures.value ∙ holds_at p cond c.as_slice.result.now c.deref.result.now x c.as_slice.ensures its) ∙ c.if-not-branch.false in
    let lt = one_more p start cond step x k b inv.walking yes in
    let left = turns_left side body p start cond step place (k + 1) in
    let next = evaluated side place (Some (iterator_at (index_value p start) step (k + 1))) in
    let tested = goes_on a here here _ _ test (event ∷ (body (inside p it) ++ (next ∷ left))) (inv.steps b r) (turn_parts side body p start cond step place k lt) (subst (λ hs. Advances here hs here) same (c.in_ok-test.ensures.steps here)) in
    let h = c.in_err-count.field-0.0 in
    halts a c.count.new.self _ c.from_residual-in_err-count.result h c.from_residual-in_err-count.ensures.1
    (due_in_whole a here _ _ (event ∷ []) (body (inside p it) ++ (next ∷ left)) h tested refl c.in_err-count.ensures)

pub repeat-returns-in_err-run_all-clause-steps : goal.repeat-returns-in_err-run_all-clause-steps
repeat-returns-in_err-run_all-clause-steps t c = λ b r.
    let a = c.args.self.now in
    let here = c.loop-turn.self in
    let p = point c.args.scope.now.params.now c.args.iters.now in
    let side = c.args.scope.now.side in
    let body : Point → List Event = λ q. in_all side q c.args.body.now in
    let start = c.args.head.now.start.now in
    let cond = c.args.head.now.cond.now in
    let step = c.args.head.now.step in
    let place = c.args.head.now.place in
    let k = c.loop-turn._turn in
    let x = to_z w64 c.loop-turn.x-bits in
    let inv = c.loop-turn.invariant in
    let it = iterator_at (index_value p start) step k in
    let its = c.deref.ensures.value ∙ c.in_ok-at.ensures in
    let test = in_test side (inside p it) cond.parts in
    let same = test_at side p cond c.as_slice.result.now c.deref.result.now x it c.as_slice.ensures its inv.walking.place in
    let yes : holds (inside p x) cond ≡ true = sym (c.in_ok-test.ensures.value ∙ holds_at p cond c.as_slice.result.now c.deref.result.now x c.as_slice.ensures its) ∙ c.if-not-branch.false in
    let lt = one_more p start cond step x k b inv.walking yes in
    let left = turns_left side body p start cond step place (k + 1) in
    let next = evaluated side place (Some (iterator_at (index_value p start) step (k + 1))) in
    let tested = goes_on a here here _ _ test (event ∷ (body (inside p it) ++ (next ∷ left))) (inv.steps b r) (turn_parts side body p start cond step place k lt) (subst (λ hs. Advances here hs here) same (c.in_ok-test.ensures.steps here)) in
    let counted = c.count.new.self in
    let stepped = goes_on a here counted _ _ (event ∷ []) (body (inside p it) ++ (next ∷ left)) tested refl c.in_ok-count.ensures in
    let inner = c.deref-in-loop-turn.ensures.value ∙ c.in_ok-at.ensures in
    let ready = ready_inside (length p.params) p.iters c.deref-in-loop-turn.result.now x c.args.body.now inner r in
    let same_body = body_at side p c.args.body.now c.deref-in-loop-turn.result.now x it inner inv.walking.place in
    let h = c.in_err-run_all.field-0.0 in
    halts a c.run_all.new.self _ c.from_residual-in_err-run_all.result h c.from_residual-in_err-run_all.ensures.1
    (due_in_whole a counted _ _ (body (inside p it)) (next ∷ left) h stepped refl (subst (λ hs. IsDue (reached counted.limit counted.events hs) h) same_body (c.in_err-run_all.ensures.steps ready)))

pub repeat-returns-in_err-x-2-clause-steps : goal.repeat-returns-in_err-x-2-clause-steps
repeat-returns-in_err-x-2-clause-steps t c = λ b r.
    let a = c.args.self.now in
    let here = c.loop-turn.self in
    let p = point c.args.scope.now.params.now c.args.iters.now in
    let side = c.args.scope.now.side in
    let body : Point → List Event = λ q. in_all side q c.args.body.now in
    let start = c.args.head.now.start.now in
    let cond = c.args.head.now.cond.now in
    let step = c.args.head.now.step in
    let place = c.args.head.now.place in
    let k = c.loop-turn._turn in
    let x = to_z w64 c.loop-turn.x-bits in
    let fits : FitsSigned w64 c.args.head.now.step = search rules in
    let inv = c.loop-turn.invariant in
    let it = iterator_at (index_value p start) step k in
    let its = c.deref.ensures.value ∙ c.in_ok-at.ensures in
    let test = in_test side (inside p it) cond.parts in
    let same = test_at side p cond c.as_slice.result.now c.deref.result.now x it c.as_slice.ensures its inv.walking.place in
    let yes : holds (inside p x) cond ≡ true = sym (c.in_ok-test.ensures.value ∙ holds_at p cond c.as_slice.result.now c.deref.result.now x c.as_slice.ensures its) ∙ c.if-not-branch.false in
    let lt = one_more p start cond step x k b inv.walking yes in
    let left = turns_left side body p start cond step place (k + 1) in
    let next = evaluated side place (Some (iterator_at (index_value p start) step (k + 1))) in
    let tested = goes_on a here here _ _ test (event ∷ (body (inside p it) ++ (next ∷ left))) (inv.steps b r) (turn_parts side body p start cond step place k lt) (subst (λ hs. Advances here hs here) same (c.in_ok-test.ensures.steps here)) in
    let counted = c.count.new.self in
    let stepped = goes_on a here counted _ _ (event ∷ []) (body (inside p it) ++ (next ∷ left)) tested refl c.in_ok-count.ensures in
    let inner = c.deref-in-loop-turn.ensures.value ∙ c.in_ok-at.ensures in
    let ready = ready_inside (length p.params) p.iters c.deref-in-loop-turn.result.now x c.args.body.now inner r in
    let same_body = body_at side p c.args.body.now c.deref-in-loop-turn.result.now x it inner inv.walking.place in
    let done = c.run_all.new.self in
    let bodied = goes_on a counted done _ _ (body (inside p it)) (next ∷ left) stepped refl (subst (λ hs. Advances counted hs done) same_body (c.in_ok-run_all.ensures.steps ready)) in
    let h = c.in_err-x-2.field-0.0 in
    let after : evaluated side place (Some (x +ℤ step)) ≡ next = ap (λ z. evaluated side place (Some z)) (later (index_value p start) step x k inv.walking.place) in
    halts a done _ c.from_residual-in_err-x-2.result h c.from_residual-in_err-x-2.ensures.1
    (due_in_whole a done _ _ (next ∷ []) left h bodied refl (subst (λ e. IsDue (reached done.limit done.events (e ∷ [])) h) after (simp to_z-of_z at c.in_err-x-2.ensures.steps done)))

pub repeat-loop-turn-preserved : goal.repeat-loop-turn-preserved
repeat-loop-turn-preserved t c =
    let p0 = point c.args.scope.now.params.now c.args.iters.now in
    let fits0 : FitsSigned w64 c.args.head.now.step = search rules in
    let next_fits : FitsSigned w64 c.in_ok-x-2.x = search rules in
    let k0 = c.loop-turn._turn in
    let x0 = to_z w64 c.loop-turn.x-bits in
    let inv0 = c.loop-turn.invariant in
    let its0 = c.deref.ensures.value ∙ c.in_ok-at.ensures in
    let yes0 : holds (inside p0 x0) c.args.head.now.cond.now ≡ true = sym (c.in_ok-test.ensures.value ∙ holds_at p0 c.args.head.now.cond.now c.as_slice.result.now c.deref.result.now x0 c.as_slice.ensures its0) ∙ c.if-not-branch.false in
    let moved = simp to_z-of_z at c.in_ok-x-2.ensures.value in
    simp to_z-of_z (record {
      walking = walk_next p0 c.args.head.now.start.now c.args.head.now.cond.now c.args.head.now.step x0 k0 c.in_ok-x-2.x inv0.walking yes0 moved;
      grows = λ b r.
          let inner = c.deref-in-loop-turn.ensures.value ∙ c.in_ok-at.ensures in
          let ready = ready_inside (length p0.params) p0.iters c.deref-in-loop-turn.result.now x0 c.args.body.now inner r in
          let one = counts_one c.loop-turn.self.limit c.loop-turn.self.events c.count.new.self.events c.in_ok-count.ensures.events in
          let more = never_falls c.count.new.self.limit c.count.new.self.events c.run_all.new.self.events (in_all c.args.scope.now.side (point c.args.scope.now.params.now c.deref-in-loop-turn.result.now) c.args.body.now) (c.in_ok-run_all.ensures.steps ready).events in
          let before = inv0.grows b r in
          omega (arith, one, more, before);
      within = λ b. let lt = one_more p0 c.args.head.now.start.now c.args.head.now.cond.now c.args.head.now.step x0 k0 b inv0.walking yes0 in omega (arith, lt);
      steps = λ b r.
          let a = c.args.self.now in
          let here = c.loop-turn.self in
          let p = point c.args.scope.now.params.now c.args.iters.now in
          let side = c.args.scope.now.side in
          let body : Point → List Event = λ q. in_all side q c.args.body.now in
          let start = c.args.head.now.start.now in
          let cond = c.args.head.now.cond.now in
          let step = c.args.head.now.step in
          let place = c.args.head.now.place in
          let k = c.loop-turn._turn in
          let x = to_z w64 c.loop-turn.x-bits in
          let fits : FitsSigned w64 c.args.head.now.step = search rules in
          let inv = c.loop-turn.invariant in
          let it = iterator_at (index_value p start) step k in
          let its = c.deref.ensures.value ∙ c.in_ok-at.ensures in
          let test = in_test side (inside p it) cond.parts in
          let same = test_at side p cond c.as_slice.result.now c.deref.result.now x it c.as_slice.ensures its inv.walking.place in
          let yes : holds (inside p x) cond ≡ true = sym (c.in_ok-test.ensures.value ∙ holds_at p cond c.as_slice.result.now c.deref.result.now x c.as_slice.ensures its) ∙ c.if-not-branch.false in
          let lt = one_more p start cond step x k b inv.walking yes in
          let left = turns_left side body p start cond step place (k + 1) in
          let next = evaluated side place (Some (iterator_at (index_value p start) step (k + 1))) in
          let tested = goes_on a here here _ _ test (event ∷ (body (inside p it) ++ (next ∷ left))) (inv.steps b r) (turn_parts side body p start cond step place k lt) (subst (λ hs. Advances here hs here) same (c.in_ok-test.ensures.steps here)) in
          let counted = c.count.new.self in
          let stepped = goes_on a here counted _ _ (event ∷ []) (body (inside p it) ++ (next ∷ left)) tested refl c.in_ok-count.ensures in
          let inner = c.deref-in-loop-turn.ensures.value ∙ c.in_ok-at.ensures in
          let ready = ready_inside (length p.params) p.iters c.deref-in-loop-turn.result.now x c.args.body.now inner r in
          let same_body = body_at side p c.args.body.now c.deref-in-loop-turn.result.now x it inner inv.walking.place in
          let done = c.run_all.new.self in
          let bodied = goes_on a counted done _ _ (body (inside p it)) (next ∷ left) stepped refl (subst (λ hs. Advances counted hs done) same_body (c.in_ok-run_all.ensures.steps ready)) in
          let after : evaluated side place (Some (x +ℤ step)) ≡ next = ap (λ z. evaluated side place (Some z)) (later (index_value p start) step x k inv.walking.place) in
          goes_on a done done _ _ (next ∷ []) left bodied refl (subst (λ e. Advances done (e ∷ []) done) after (simp to_z-of_z at c.in_ok-x-2.ensures.steps done));
      ran = λ b r first counters state h.
          let leaf = leaf_in c.args.scope.now.side c.args.scope.now.arrays.now in
          let inner = c.deref-in-loop-turn.ensures.value ∙ c.in_ok-at.ensures in
          let ready = ready_inside (length p0.params) p0.iters c.deref-in-loop-turn.result.now x0 c.args.body.now inner r in
          let now = run free (flat_map (in_turn_of c.args.body.now first p0 c.args.head.now.start.now c.args.head.now.step counters) (range_with_len 0 k0)) state in
          let held = Holds-kept c.loop-turn.self.table c.count.new.self.table c.in_ok-count.ensures.kept c.loop-turn.cells leaf now (inv0.ran b r first counters state h) in
          subst (λ (z : Cell → Term). Holds c.run_all.new.self.table c.run_all.new.cells leaf z)
          (ran_more c.args.body.now first p0 c.args.head.now.start.now c.args.head.now.step counters k0 c.deref-in-loop-turn.result.now x0 state inner inv0.walking.place)
          (c.in_ok-run_all.ensures.ran ready first (counters ++ pos k0 ∷ []) now held);
    })

pub run_all-returns-clause-ran : goal.run_all-returns-clause-ran
run_all-returns-clause-ran t c = λ r first counters state h.
    let p = point c.args.scope.now.params.now c.args.iters.now in
    let leaf = leaf_in c.args.scope.now.side c.args.scope.now.arrays.now in
    let i = c.loop-stmt.stmt-index in
    let j = c.loop-stmt.invariant.ran r first counters state h in
    let none : drop i c.args.stmts.now ≡ [] = drop_all i c.args.stmts.now (omega arith) in
    subst (λ (z : Cell → Term). Holds c.loop-stmt.self.table c.loop-stmt.cells leaf z) (sym (j.3 ∙ ap (λ ss. run free (trace_all ss j.0 p counters) j.1) none)) j.2

pub run_one-returns-in_err-test-in-If-clause-steps : goal.run_one-returns-in_err-test-in-If-clause-steps
run_one-returns-in_err-test-in-If-clause-steps t c = λ r.
    let a = c.args.self.now in
    let p = point c.args.scope.now.params.now c.args.iters.now in
    let side = c.args.scope.now.side in
    let is = ap (in_stmt side p) c.in-If.is ∙ in_if side p c.in-If.cond c.in-If.taken c.in-If.other c.in-If.place in
    let h = c.in_err-test-in-If.field-0.0 in
    halts a a _ c.from_residual.result h c.from_residual.ensures.1
    (due_in_whole a a _ _ (in_test side p c.in-If.cond.parts) _ h (begins a _) is (subst (λ ps. IsDue (reached a.limit a.events (in_test side p ps)) h) c.as_slice-in-If.ensures (c.in_err-test-in-If.ensures.steps a)))

pub run_one-returns-in_err-id-in-Assign-clause-steps : goal.run_one-returns-in_err-id-in-Assign-clause-steps
run_one-returns-in_err-id-in-Assign-clause-steps t c = λ r.
    let a = c.args.self.now in
    let p = point c.args.scope.now.params.now c.args.iters.now in
    let side = c.args.scope.now.side in
    let is = ap (in_stmt side p) c.in-Assign.is ∙ in_assign side p c.in-Assign.array c.in-Assign.subs c.in-Assign.value c.in-Assign.place in
    let h = c.in_err-id-in-Assign.field-0.0 in
    halts a c.evaluate.new.self _ c.from_residual-in_err-id-in-Assign.result h c.from_residual-in_err-id-in-Assign.ensures.1
    (due_in_whole a a _ _ (in_value side p c.in-Assign.value) _ h (begins a _) is c.in_err-id-in-Assign.ensures.steps)

pub run_one-returns-in_err-index-in-Assign-clause-steps : goal.run_one-returns-in_err-index-in-Assign-clause-steps
run_one-returns-in_err-index-in-Assign-clause-steps t c = λ r.
    let a = c.args.self.now in
    let b = c.evaluate.new.self in
    let p = point c.args.scope.now.params.now c.args.iters.now in
    let side = c.args.scope.now.side in
    let subs = flat_map (index side p) c.in-Assign.subs in
    let is = ap (in_stmt side p) c.in-Assign.is ∙ in_assign side p c.in-Assign.array c.in-Assign.subs c.in-Assign.value c.in-Assign.place in
    let h = c.in_err-index-in-Assign.field-0.0 in
    let evaluated = goes_on a a b _ _ (in_value side p c.in-Assign.value) subs (begins a _) is c.in_ok-id-in-Assign.ensures.steps in
    halts a b _ c.from_residual-in_err-index-in-Assign.result h c.from_residual-in_err-index-in-Assign.ensures.1
    (due_in_whole a b _ _ subs [] h evaluated (sym (append-nil subs)) (subst (λ es. IsDue (reached b.limit b.events (flat_map (index side p) es)) h) c.as_slice-in-Assign.ensures (c.in_err-index-in-Assign.ensures.steps b)))

pub run_one-returns-in_ok-index-in-Assign-clause-steps : goal.run_one-returns-in_ok-index-in-Assign-clause-steps
run_one-returns-in_ok-index-in-Assign-clause-steps t c = λ r.
    let a = c.args.self.now in
    let b = c.evaluate.new.self in
    let p = point c.args.scope.now.params.now c.args.iters.now in
    let side = c.args.scope.now.side in
    let value = in_value side p c.in-Assign.value in
    let subs = flat_map (index side p) c.in-Assign.subs in
    let is = ap (in_stmt side p) c.in-Assign.is ∙ in_assign side p c.in-Assign.array c.in-Assign.subs c.in-Assign.value c.in-Assign.place in
    let both = advance a b b value subs c.in_ok-id-in-Assign.ensures.steps (subst (λ es. Advances b (flat_map (index side p) es) b) c.as_slice-in-Assign.ensures (c.in_ok-index-in-Assign.ensures.steps b)) in
    subst (λ hs. Steps a hs c.store.result b) (append-nil (value ++ subs) ∙ sym is) (steps_after a b b (value ++ subs) [] c.store.result both (c.store.ensures.steps b))

pub run_one-returns-in_ok-index-in-Assign-clause-ran : goal.run_one-returns-in_ok-index-in-Assign-clause-ran
run_one-returns-in_ok-index-in-Assign-clause-ran t c = λ r first counters state h.
    let a = c.args.self.now in
    let b = c.evaluate.new.self in
    let p = point c.args.scope.now.params.now c.args.iters.now in
    let leaf = leaf_in c.args.scope.now.side c.args.scope.now.arrays.now in
    let value = value_of free p state c.in-Assign.value in
    let at = cell c.in-Assign.array c.in_ok-index-in-Assign.index.items in
    let index = c.in_ok-index-in-Assign.ensures.value ∙ ap (map (index_value p)) c.as_slice-in-Assign.ensures in
    let is : store at value state ≡ run free (trace c.args.stmt.now first p counters) state =
    ap (λ l. store (cell c.in-Assign.array l) value state) index
    ∙ sym (ap (λ s. run free (trace s first p counters) state) c.in-Assign.is ∙ ap (λ es. run free es state) (trace_assign c.in-Assign.array c.in-Assign.subs c.in-Assign.value c.in-Assign.place first p counters)) in
    on_ok c.store.result _ _ (λ set. subst (λ (z : Cell → Term). Holds b.table c.store.new.cells leaf z) is
    (Holds-after a.table b.table c.in_ok-id-in-Assign.ensures.steps.kept c.args.cells.now c.store.new.cells leaf state at value c.in_ok-id-in-Assign.id set (c.in_ok-id-in-Assign.ensures.term state h) h)) c.store.ensures.set

pub run_one-returns-then-branch-clause-steps : goal.run_one-returns-then-branch-clause-steps
run_one-returns-then-branch-clause-steps t c = λ r.
    let a = c.args.self.now in
    let p = point c.args.scope.now.params.now c.args.iters.now in
    let side = c.args.scope.now.side in
    let test = in_test side p c.in-If.cond.parts in
    let inside = in_all side p c.in-If.taken in
    let chosen : holds p c.in-If.cond ≡ true = sym (c.in_ok-test-in-If.ensures.value ∙ ap (list_all (comparison_holds p)) c.as_slice-in-If.ensures) ∙ c.if-branch.true in
    let is = ap (in_stmt side p) c.in-If.is ∙ in_if side p c.in-If.cond c.in-If.taken c.in-If.other c.in-If.place ∙ ap (λ b. test ++ (if b then in_all side p c.in-If.taken else in_all side p c.in-If.other)) chosen in
    let q = ready_if (length p.params) (length p.iters) c.in-If.cond c.in-If.taken c.in-If.other c.in-If.place (subst (Ready (length p.params) (length p.iters)) c.in-If.is r) in
    let tested = subst (λ ps. Advances a (in_test side p ps) a) c.as_slice-in-If.ensures (c.in_ok-test-in-If.ensures.steps a) in
    let ran = c.run_all.ensures.steps (subst (ReadyAll (length p.params) (length p.iters)) (sym c.as_slice-then-branch.ensures) q.1) in
    subst (λ hs. Steps a hs c.run_all.result c.run_all.new.self) (sym is) (steps_after a a c.run_all.new.self test inside c.run_all.result tested (subst (λ ss. Steps a (in_all side p ss) c.run_all.result c.run_all.new.self) c.as_slice-then-branch.ensures ran))

pub run_one-returns-then-branch-clause-ran : goal.run_one-returns-then-branch-clause-ran
run_one-returns-then-branch-clause-ran t c = λ r first counters state h.
    let p = point c.args.scope.now.params.now c.args.iters.now in
    let leaf = leaf_in c.args.scope.now.side c.args.scope.now.arrays.now in
    let chosen : holds p c.in-If.cond ≡ true = sym (c.in_ok-test-in-If.ensures.value ∙ ap (list_all (comparison_holds p)) c.as_slice-in-If.ensures) ∙ c.if-branch.true in
    let q = ready_if (length p.params) (length p.iters) c.in-If.cond c.in-If.taken c.in-If.other c.in-If.place (subst (Ready (length p.params) (length p.iters)) c.in-If.is r) in
    let from = first in
    let is : trace_all c.as_slice-then-branch.result.now from p counters ≡ trace c.args.stmt.now first p counters = ap (λ ss. trace_all ss from p counters) c.as_slice-then-branch.ensures
    ∙ sym (ap (λ s. trace s first p counters) c.in-If.is ∙ trace_if c.in-If.cond c.in-If.taken c.in-If.other c.in-If.place first p counters
    ∙ ap (λ b. cond b (trace_all c.in-If.taken first p counters) (trace_all c.in-If.other (first + sum_by assignments c.in-If.taken) p counters)) chosen) in
    subst (λ es. OnOk c.run_all.result (Holds c.run_all.new.self.table c.run_all.new.cells leaf (run free es state))) is
    (c.run_all.ensures.ran (subst (ReadyAll (length p.params) (length p.iters)) (sym c.as_slice-then-branch.ensures) q.1) from counters state h)

pub run_one-returns-else-branch-clause-steps : goal.run_one-returns-else-branch-clause-steps
run_one-returns-else-branch-clause-steps t c = λ r.
    let a = c.args.self.now in
    let p = point c.args.scope.now.params.now c.args.iters.now in
    let side = c.args.scope.now.side in
    let test = in_test side p c.in-If.cond.parts in
    let inside = in_all side p c.in-If.other in
    let chosen : holds p c.in-If.cond ≡ false = sym (c.in_ok-test-in-If.ensures.value ∙ ap (list_all (comparison_holds p)) c.as_slice-in-If.ensures) ∙ c.if-branch.false in
    let is = ap (in_stmt side p) c.in-If.is ∙ in_if side p c.in-If.cond c.in-If.taken c.in-If.other c.in-If.place ∙ ap (λ b. test ++ (if b then in_all side p c.in-If.taken else in_all side p c.in-If.other)) chosen in
    let q = ready_if (length p.params) (length p.iters) c.in-If.cond c.in-If.taken c.in-If.other c.in-If.place (subst (Ready (length p.params) (length p.iters)) c.in-If.is r) in
    let tested = subst (λ ps. Advances a (in_test side p ps) a) c.as_slice-in-If.ensures (c.in_ok-test-in-If.ensures.steps a) in
    let ran = c.run_all-else-branch.ensures.steps (subst (ReadyAll (length p.params) (length p.iters)) (sym c.as_slice-else-branch.ensures) q.2) in
    subst (λ hs. Steps a hs c.run_all-else-branch.result c.run_all-else-branch.new.self) (sym is) (steps_after a a c.run_all-else-branch.new.self test inside c.run_all-else-branch.result tested (subst (λ ss. Steps a (in_all side p ss) c.run_all-else-branch.result c.run_all-else-branch.new.self) c.as_slice-else-branch.ensures ran))

pub run_one-returns-else-branch-clause-ran : goal.run_one-returns-else-branch-clause-ran
run_one-returns-else-branch-clause-ran t c = λ r first counters state h.
    let p = point c.args.scope.now.params.now c.args.iters.now in
    let leaf = leaf_in c.args.scope.now.side c.args.scope.now.arrays.now in
    let chosen : holds p c.in-If.cond ≡ false = sym (c.in_ok-test-in-If.ensures.value ∙ ap (list_all (comparison_holds p)) c.as_slice-in-If.ensures) ∙ c.if-branch.false in
    let q = ready_if (length p.params) (length p.iters) c.in-If.cond c.in-If.taken c.in-If.other c.in-If.place (subst (Ready (length p.params) (length p.iters)) c.in-If.is r) in
    let from = first + sum_by assignments c.in-If.taken in
    let is : trace_all c.as_slice-else-branch.result.now from p counters ≡ trace c.args.stmt.now first p counters = ap (λ ss. trace_all ss from p counters) c.as_slice-else-branch.ensures
    ∙ sym (ap (λ s. trace s first p counters) c.in-If.is ∙ trace_if c.in-If.cond c.in-If.taken c.in-If.other c.in-If.place first p counters
    ∙ ap (λ b. cond b (trace_all c.in-If.taken first p counters) (trace_all c.in-If.other (first + sum_by assignments c.in-If.taken) p counters)) chosen) in
    subst (λ es. OnOk c.run_all-else-branch.result (Holds c.run_all-else-branch.new.self.table c.run_all-else-branch.new.cells leaf (run free es state))) is
    (c.run_all-else-branch.ensures.ran (subst (ReadyAll (length p.params) (length p.iters)) (sym c.as_slice-else-branch.ensures) q.2) from counters state h)
