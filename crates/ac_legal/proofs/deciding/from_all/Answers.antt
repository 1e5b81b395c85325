use Rattle.std.proofs.Common.{◌≡◌, ℕ, ◌<◌, ◌+◌, length, ap, arith}
use Rattle.ac_legal.specs.QuestionChoices.{UnlessMemory}
use Rattle.ac_legal.specs.ScheduleAnswers.{NoneBetween, NoDecidedPointBetween, SomeStops}
use Rattle.ac_legal.proofs.Trying.{held_on, held_stop, held_some, held_none, not_memory, stop_of, one_more}
use Rattle.ac_legal.proofs.Undecided.{decided_if_kept}
use Rattle.ac_legal.proofs.Wholes.{kept_is}
use Rattle.ac_legal.proofs.deciding.from_all.Goals as goal

pub loop-i-init : goal.loop-i-init
loop-i-init c = (λ i j l k. absurd (omega (arith, l)), λ i j l k. absurd (omega (arith, l)))

pub loop-i-preserved-in-Ok-Kept : goal.loop-i-preserved-in-Ok-Kept
loop-i-preserved-in-Ok-Kept c =
    let m = c.args.m.now in
    let times = c.args.order.now.times in
    let none = kept_is c.in-Ok-Kept.field-0 ((j : ℕ) → j < length m.stmts → NoneBetween m times c.loop-i.i j) c.in-Ok-Kept.field-0-is c.in-Ok-Kept.ensures.kept in (
      held_on c.loop-i.held ((i j : ℕ) → i < c.loop-i.i → j < length m.stmts → NoneBetween m times i j) ((i j : ℕ) → i < c.loop-i.i + 1 → j < length m.stmts → NoneBetween m times i j)
          (λ e. UnlessMemory e (SomeStops c.args.budget m times e))
          (λ h i j l k. one_more c.loop-i.i (λ n. (j : ℕ) → j < length m.stmts → NoneBetween m times n j) (λ n b j d. h n j b d) none i l j k) c.loop-i.invariant.0,
      (λ i j l k.
          one_more c.loop-i.i (λ n. (j : ℕ) → j < length m.stmts → NoDecidedPointBetween c.args.budget m times n j) (λ n b j d. c.loop-i.invariant.1 n j b d)
          (λ j d. decided_if_kept c.args.budget m times c.loop-i.i j (none j d)) i l j k),
    )

pub loop-i-preserved : goal.loop-i-preserved
loop-i-preserved c =
    let m = c.args.m.now in
    let times = c.args.order.now.times in (
      held_stop c.loop-i.held c.in_ok-held-in-Err.held c.in-Err.stop ((i j : ℕ) → i < c.loop-i.i → j < length m.stmts → NoneBetween m times i j) ((i j : ℕ) → i < c.loop-i.i + 1 → j < length m.stmts → NoneBetween m times i j)
          (λ e. UnlessMemory e (SomeStops c.args.budget m times e)) c.in_ok-held-in-Err.ensures.first c.in-Err.ensures.stops c.loop-i.invariant.0,
      (λ i j l k.
          one_more c.loop-i.i (λ n. (j : ℕ) → j < length m.stmts → NoDecidedPointBetween c.args.budget m times n j) (λ n b j d. c.loop-i.invariant.1 n j b d)
          (not_memory c.in-Err.stop ((j : ℕ) → j < length m.stmts → NoDecidedPointBetween c.args.budget m times c.loop-i.i j) c.in_ok-held-in-Err.ensures.refusal c.in-Err.ensures.decided) i l j k),
    )

pub returns-in-Some-clause-stops : goal.returns-in-Some-clause-stops
returns-in-Some-clause-stops c =
    let m = c.args.m.now in
    let times = c.args.order.now.times in
    held_some c.loop-i.held c.in-Some.stop ((i j : ℕ) → i < c.loop-i.i → j < length m.stmts → NoneBetween m times i j) (λ e. UnlessMemory e (SomeStops c.args.budget m times e)) c.in-Some.is c.loop-i.invariant.0

pub returns-in-Some-clause-decided : goal.returns-in-Some-clause-decided
returns-in-Some-clause-decided c =
    let m = c.args.m.now in
    let times = c.args.order.now.times in
    stop_of c.in-Some.stop ((i j : ℕ) → i < length m.stmts → j < length m.stmts → NoDecidedPointBetween c.args.budget m times i j)
    (λ i j l k. c.loop-i.invariant.1 i j (let e : length c.as_slice-stmts.result.now ≡ length m.stmts = ap length c.as_slice-stmts.ensures in omega (arith, e, l)) k)

pub returns-in-None-clause-kept : goal.returns-in-None-clause-kept
returns-in-None-clause-kept c = λ i j l k.
    let m = c.args.m.now in
    let times = c.args.order.now.times in
    held_none c.loop-i.held ((i j : ℕ) → i < c.loop-i.i → j < length m.stmts → NoneBetween m times i j) (λ e. UnlessMemory e (SomeStops c.args.budget m times e)) c.in-None.is c.loop-i.invariant.0
    i j (let e : length c.as_slice-stmts.result.now ≡ length m.stmts = ap length c.as_slice-stmts.ensures in omega (arith, e, l)) k
