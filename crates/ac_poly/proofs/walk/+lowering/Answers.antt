use Rattle.std.proofs.Common.{rules, arith, ◌≡◌, ◌≤◌, suc, ◌∙◌, inr, w64, FitsSigned, subst, length, IfOk}
use Rattle.std.proofs.lemmas.Int.{to_z-of_z}
use Rattle.ac_syntax.specs.declared.tree.Stmt.{the_lemmas}
use Rattle.ac_syntax.specs.ReadyPrograms.{ReadyAll}
use Rattle.ac_syntax.proofs.ReadyAt.{ready_for, ready_if}
use Rattle.ac_poly_quotients.specs.QuotientScopes.{in_loop, where_holds, where_fails}
use Rattle.ac_poly_quotients.specs.ScopeRange.{CanEnter, CanHold, CanFail}
use Rattle.ac_poly.proofs.Answering.{wide_not}
use Rattle.ac_poly.proofs.Walks.{unknown, within, ready_within, few_within, ready_in_loop, ready_holds, ready_fails, walk_for, walk_if, walk_assign, walk_assign_wide, walk_if_err, count_in_loop, count_taken, count_other}
use Rattle.ac_poly.proofs.walk.+lowering.Goals as goal

pub lower_within-lower_all-requires : goal.lower_within-lower_all-requires
lower_within-lower_all-requires t c = (
  search (rules, the_lemmas),
  (
    subst (λ r. IfOk r (λ made. ReadyAll made.params (length made.iters) c.args.body.now)) c.in-Ok.is c.requires.ready,
    subst (λ r. IfOk r (λ made. length made.pieces ≤ 16)) c.in-Ok.is c.requires.few,
  ),
)

pub lower_taken-lower_within-requires : goal.lower_taken-lower_within-requires
lower_taken-lower_within-requires t c =
    let sc = c.args.scope.now in
    let can = CanHold sc c.args.cond.now in (
      search (rules, the_lemmas),
      (
        ready_within c.where_holds-inner.result (where_holds sc c.args.cond.now) can c.args.body.now c.where_holds-inner.ensures (ready_holds sc c.args.cond.now c.args.body.now c.requires.body),
        few_within c.where_holds-inner.result (where_holds sc c.args.cond.now) can c.where_holds-inner.ensures (subst (λ n. n ≤ 16) (count_taken sc c.args.cond.now) c.requires.few),
      ),
    )

pub lower_taken-returns : goal.lower_taken-returns
lower_taken-returns t c =
    let sc = c.args.scope.now in
    within c.where_holds-inner.result c.lower_within.result sc.params _ c.args.body.now c.args.number c.len.result (where_holds sc c.args.cond.now) (CanHold sc c.args.cond.now) c.args.out.now c.lower_within.new.out
    c.where_holds-inner.ensures c.requires.body (c.len.ensures ∙ count_taken sc c.args.cond.now) c.lower_within.ensures

pub lower_other-lower_within-requires : goal.lower_other-lower_within-requires
lower_other-lower_within-requires t c =
    let sc = c.args.scope.now in
    let can = CanFail sc c.args.cond.now in
    let few : c.in_ok-pieces.pieces ≤ 16 = omega arith in
    let count = count_other sc c.args.cond.now _ c.in_ok-pieces.ensures c.requires.few in (
      search (rules, the_lemmas),
      (
        ready_within c.where_fails-inner.result (where_fails sc c.args.cond.now) can c.args.body.now c.where_fails-inner.ensures (ready_fails sc c.args.cond.now c.args.body.now c.requires.body),
        few_within c.where_fails-inner.result (where_fails sc c.args.cond.now) can c.where_fails-inner.ensures (subst (λ n. n ≤ 16) count few),
      ),
    )

pub lower_other-returns : goal.lower_other-returns
lower_other-returns t c =
    let sc = c.args.scope.now in
    within c.where_fails-inner.result c.lower_within.result sc.params _ c.args.body.now c.args.number _ (where_fails sc c.args.cond.now) (CanFail sc c.args.cond.now) c.args.out.now c.lower_within.new.out
    c.where_fails-inner.ensures c.requires.body (count_other sc c.args.cond.now _ c.in_ok-pieces.ensures c.requires.few) c.lower_within.ensures

pub lower_other-returns-then-pieces-gt16 : goal.lower_other-returns-then-pieces-gt16
lower_other-returns-then-pieces-gt16 t c =
    unknown c.seek_all.result c.args.scope.now.params _ c.args.body.now c.args.number (where_fails c.args.scope.now c.args.cond.now) (CanFail c.args.scope.now c.args.cond.now) _ _ c.requires.body
    (inr (let e = count_other c.args.scope.now c.args.cond.now _ c.in_ok-pieces.ensures c.requires.few in omega arith)) (count_other c.args.scope.now c.args.cond.now _ c.in_ok-pieces.ensures c.requires.few) c.seek_all.ensures

pub lower_one-lower_within-requires : goal.lower_one-lower_within-requires
lower_one-lower_within-requires t c =
    let sc = c.args.scope.now in
    let z : FitsSigned w64 c.in-For.step = search rules in
    let made = rw (to_z-of_z w64 c.in-For.step z) at c.in_loop-inner.ensures in
    let inner = in_loop sc c.args.number c.in-For.start c.in-For.cond c.in-For.step in
    let can = CanEnter sc c.args.number c.in-For.start c.in-For.cond c.in-For.step in
    let r = ready_for _ _ c.in-For.iter c.in-For.start c.in-For.cond c.in-For.step c.in-For.body c.in-For.place (rw c.in-For.is at c.requires.ready) in (
      search (rules, the_lemmas),
      (
        rw c.as_slice.ensures (ready_within c.in_loop-inner.result inner can c.in-For.body made (ready_in_loop sc c.args.number c.in-For.start c.in-For.cond c.in-For.step c.in-For.body r.4)),
        few_within c.in_loop-inner.result inner can made (subst (λ n. n ≤ 16) (count_in_loop sc c.args.number c.in-For.start c.in-For.cond c.in-For.step) c.requires.few),
      ),
    )

pub lower_one-returns-in_ok-next-in-For : goal.lower_one-returns-in_ok-next-in-For
lower_one-returns-in_ok-next-in-For t c =
    let sc = c.args.scope.now in
    let z : FitsSigned w64 c.in-For.step = search rules in
    let e : c.in_ok-next-in-For.next ≡ suc c.args.number = search rules in
    let made = rw (to_z-of_z w64 c.in-For.step z) at c.in_loop-inner.ensures in
    let r = ready_for _ _ c.in-For.iter c.in-For.start c.in-For.cond c.in-For.step c.in-For.body c.in-For.place (rw c.in-For.is at c.requires.ready) in
    walk_for c.lower_within.result c.args.s.now c.in-For.iter c.in-For.start c.in-For.cond c.in-For.step c.in-For.body c.in-For.place c.args.number sc c.args.out.now c.lower_within.new.out
    c.in-For.is
    (within c.in_loop-inner.result c.lower_within.result sc.params _ c.in-For.body (suc c.args.number) _ (in_loop sc c.args.number c.in-For.start c.in-For.cond c.in-For.step)
    (CanEnter sc c.args.number c.in-For.start c.in-For.cond c.in-For.step) c.args.out.now c.lower_within.new.out
    made r.4 (c.len.ensures ∙ count_in_loop sc c.args.number c.in-For.start c.in-For.cond c.in-For.step) (rw (e, c.as_slice.ensures) at c.lower_within.ensures))

pub lower_one-lower_taken-requires : goal.lower_one-lower_taken-requires
lower_one-lower_taken-requires t c =
    let r = ready_if _ _ c.in-If.cond c.in-If.taken c.in-If.other c.in-If.place (rw c.in-If.is at c.requires.ready) in
    (search (rules, the_lemmas), (rw c.as_slice-in-If.ensures r.1, c.requires.few))

pub lower_one-lower_other-requires : goal.lower_one-lower_other-requires
lower_one-lower_other-requires t c =
    let r = ready_if _ _ c.in-If.cond c.in-If.taken c.in-If.other c.in-If.place (rw c.in-If.is at c.requires.ready) in
    (search (rules, the_lemmas), (rw c.as_slice-in-If-2.ensures r.2, c.requires.few))

pub lower_one-returns-in_ok-next-in-If : goal.lower_one-returns-in_ok-next-in-If
lower_one-returns-in_ok-next-in-If t c =
    walk_if c.lower_other.result c.args.s.now c.in-If.cond c.in-If.taken c.in-If.other c.in-If.place c.args.number c.in_ok-next-in-If.next c.args.scope.now c.args.out.now _ c.lower_other.new.out
    c.in-If.is (rw c.as_slice-in-If.ensures at c.in_ok-next-in-If.ensures) (rw c.as_slice-in-If-2.ensures at c.lower_other.ensures)

pub lower_one-returns-in_err-next-in-If : goal.lower_one-returns-in_err-next-in-If
lower_one-returns-in_err-next-in-If t c =
    walk_if_err _ c.in_err-next-in-If.field-0.0 c.args.s.now c.in-If.cond c.in-If.taken c.in-If.other c.in-If.place c.args.number c.args.scope.now c.args.out.now c.lower_taken.new.out _
    c.from_residual-in_err-next-in-If.ensures.1 c.in-If.is (rw c.as_slice-in-If.ensures at c.in_err-next-in-If.ensures)

pub lower_one-returns-in_ok-push-in-Ok : goal.lower_one-returns-in_ok-push-in-Ok
lower_one-returns-in_ok-push-in-Ok t c =
    walk_assign c.args.s.now _ c.in-Assign.subs c.as_slice-in-Assign.result.now c.in-Assign.value c.in-Assign.place c.args.number c.args.scope.now c.in-Ok.made c.args.out.now c.push.new.self
    c.in-Assign.is c.as_slice-in-Assign.ensures c.requires.few c.in-Ok.ensures c.in_ok-push-in-Ok.ensures.ok

pub lower_one-returns-in-Err-Wide : goal.lower_one-returns-in-Err-Wide
lower_one-returns-in-Err-Wide t c =
    walk_assign_wide c.args.s.now c.in-Assign.array c.in-Assign.subs c.as_slice-in-Assign.result.now c.in-Assign.value c.in-Assign.place c.args.number c.args.scope.now c.args.out.now c.args.out.now
    c.in-Assign.is c.as_slice-in-Assign.ensures c.requires.few (wide_not _ _ c.in-Err-Wide.field-0-is c.in-Err-Wide.ensures)
