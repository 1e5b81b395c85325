use Rattle.std.proofs.Common.{rules, arith, suc, ◌≡◌, ◌<◌, ◌≤◌, ◌+◌, ◌^◌, ◌∙◌, ◌++◌, ◌∷◌, [], ap, sym, drop, List, length, map, ℕ}
use Rattle.std.proofs.lemmas.Result.{IfOk-weaker, IfErr-weaker}
use borrow.Author.Gap.{counting}
use Rattle.ac_forms.specs.Affine.{Affine}
use Rattle.ac_legal_text.specs.LineKinds.{kinds_from}
use Rattle.ac_legal_text.specs.OrderTexts.{AreTimesOver, columns_of}
use Rattle.ac_legal_text.proofs.Lines.{assignments_end, end_fails, assignments_more, first_fails, next_fails, room_left, on_line}
use Rattle.ac_legal_text.proofs.orders.+read_assignments.Goals as goal

pub returns-then-number-len-clause-times : goal.returns-then-number-len-clause-times
returns-then-number-len-clause-times t c =
    IfOk-weaker c.read_end.result _ _ (λ u h. assignments_end c.args.m.now c.args.levels c.args.number c.args.text.now c.args.times.now (c.if-number-len.true ∙ c.len.ensures) h) c.read_end.ensures.end

pub returns-then-number-len-clause-fault : goal.returns-then-number-len-clause-fault
returns-then-number-len-clause-fault t c =
    IfErr-weaker c.read_end.result _ _ (λ fault h. on_line fault _ _ (λ n k. end_fails c.args.m.now c.args.levels c.args.number c.args.before n c.args.text.now (c.if-number-len.true ∙ c.len.ensures) k) h) c.read_end.ensures.fault

pub read_assignments-requires : goal.read_assignments-requires
read_assignments-requires t c =
    let h = c.in-Ok.ensures.times in
    let over : AreTimesOver c.args.levels c.in_ok-columns.columns h.0 = h.2 in
    let room = room_left c.args.before c.args.levels c.args.number c.args.text.now c.in-Ok.rest.now h.0 h.3 over.count c.requires.room in
    (search (rules, counting), (omega arith, omega (arith, room)))

pub overflow_add-behind-in-Ok : goal.overflow_add-behind-in-Ok
overflow_add-behind-in-Ok t c =
    let h = c.in-Ok.ensures.times in
    let over : AreTimesOver c.args.levels c.in_ok-columns.columns h.0 = h.2 in
    let room = room_left c.args.before c.args.levels c.args.number c.args.text.now c.in-Ok.rest.now h.0 h.3 over.count c.requires.room in
    omega (arith, room)

pub returns-in_ok-push-in-Ok-clause-times : goal.returns-in_ok-push-in-Ok-clause-times
returns-in_ok-push-in-Ok-clause-times t c =
    let h = c.in-Ok.ensures.times in
    let forms : c.read_assignment.new.forms ≡ h.0 = h.1 ∙ ap (λ (xs : List Affine). xs ++ h.0) c.new-forms.ensures in
    IfOk-weaker c.read_assignments.result _ _
    (λ u k. assignments_more c.args.m.now c.args.levels c.args.number c.in_ok-columns.columns c.args.text.now c.in-Ok.rest.now c.args.times.now c.push.new.self c.read_assignments.new.times c.read_assignment.new.forms h.0 c.in_ok-columns.ensures forms h.2 h.3 c.in_ok-push-in-Ok.ensures.ok k)
    c.read_assignments.ensures.times

pub returns-in_ok-push-in-Ok-clause-fault : goal.returns-in_ok-push-in-Ok-clause-fault
returns-in_ok-push-in-Ok-clause-fault t c =
    let h = c.in-Ok.ensures.times in
    IfErr-weaker c.read_assignments.result _ _
    (λ fault k. on_line fault _ _
    (λ n f. next_fails c.args.m.now c.args.levels c.args.number c.in_ok-columns.columns c.args.before (c.args.before + 1 + c.args.levels) n c.args.text.now c.in-Ok.rest.now h.0 c.in_ok-columns.ensures h.2 h.3 (omega arith) f) k)
    c.read_assignments.ensures.fault

pub returns-in-Err-clause-fault : goal.returns-in-Err-clause-fault
returns-in-Err-clause-fault t c =
    on_line c.in-Err.fault _ _ (λ n k. first_fails c.args.m.now c.args.levels c.args.number c.in_ok-columns.columns c.args.before n c.args.text.now c.in_ok-columns.ensures k)
    (c.in-Err.ensures.fault (kinds_from c.args.levels (suc c.args.number) (drop (c.args.number + 1) (columns_of c.args.m.now))))
