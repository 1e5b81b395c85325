use Rattle.std.proofs.Common.{◌≡◌, ℕ, ◌<◌, ◌+◌, length, ap, arith}
use Rattle.ac_legal.specs.QuestionChoices.{UnlessMemory}
use Rattle.ac_legal.specs.ScheduleAnswers.{NoneBetween, NoDecidedPointBetween, SomeStops}
use Rattle.ac_legal.proofs.Trying.{held_on, held_stop, held_some, held_none, not_memory, stop_of, one_more}
use Rattle.ac_legal.proofs.Undecided.{decided_if_kept}
use Rattle.ac_legal.proofs.Wholes.{kept_is}
use Rattle.ac_legal.proofs.deciding.from_first.Goals as goal

pub loop-j-init : goal.loop-j-init
loop-j-init c = (λ j l. absurd (omega (arith, l)), λ j l. absurd (omega (arith, l)))

pub loop-j-preserved-in-Ok-Kept : goal.loop-j-preserved-in-Ok-Kept
loop-j-preserved-in-Ok-Kept c =
    let m = c.args.m.now in
    let times = c.args.order.now.times in
    let none : NoneBetween m times c.args.i c.loop-j.j = kept_is c.in-Ok-Kept.field-0 (NoneBetween m times c.args.i c.loop-j.j) c.in-Ok-Kept.field-0-is c.in-Ok-Kept.ensures.kept in (
      held_on c.loop-j.held ((j : ℕ) → j < c.loop-j.j → NoneBetween m times c.args.i j) ((j : ℕ) → j < c.loop-j.j + 1 → NoneBetween m times c.args.i j)
          (λ e. UnlessMemory e (SomeStops c.args.budget m times e)) (λ h. one_more c.loop-j.j (NoneBetween m times c.args.i) h none) c.loop-j.invariant.0,
      one_more c.loop-j.j (NoDecidedPointBetween c.args.budget m times c.args.i) c.loop-j.invariant.1 (decided_if_kept c.args.budget m times c.args.i c.loop-j.j none),
    )

pub loop-j-preserved : goal.loop-j-preserved
loop-j-preserved c =
    let m = c.args.m.now in
    let times = c.args.order.now.times in (
      held_stop c.loop-j.held c.in_ok-held-in-Err.held c.in-Err.stop ((j : ℕ) → j < c.loop-j.j → NoneBetween m times c.args.i j) ((j : ℕ) → j < c.loop-j.j + 1 → NoneBetween m times c.args.i j)
          (λ e. UnlessMemory e (SomeStops c.args.budget m times e)) c.in_ok-held-in-Err.ensures.first c.in-Err.ensures.stops c.loop-j.invariant.0,
      one_more c.loop-j.j (NoDecidedPointBetween c.args.budget m times c.args.i) c.loop-j.invariant.1
          (not_memory c.in-Err.stop (NoDecidedPointBetween c.args.budget m times c.args.i c.loop-j.j) c.in_ok-held-in-Err.ensures.refusal c.in-Err.ensures.decided),
    )

pub returns-in-Some-clause-stops : goal.returns-in-Some-clause-stops
returns-in-Some-clause-stops c =
    held_some c.loop-j.held c.in-Some.stop ((j : ℕ) → j < c.loop-j.j → NoneBetween c.args.m.now c.args.order.now.times c.args.i j) (λ e. UnlessMemory e (SomeStops c.args.budget c.args.m.now c.args.order.now.times e)) c.in-Some.is c.loop-j.invariant.0

pub returns-in-Some-clause-decided : goal.returns-in-Some-clause-decided
returns-in-Some-clause-decided c =
    let m = c.args.m.now in
    let times = c.args.order.now.times in
    stop_of c.in-Some.stop ((j : ℕ) → j < length m.stmts → NoDecidedPointBetween c.args.budget m times c.args.i j)
    (λ j l. c.loop-j.invariant.1 j (let e : length c.as_slice-stmts.result.now ≡ length m.stmts = ap length c.as_slice-stmts.ensures in omega (arith, e, l)))

pub returns-in-None-clause-kept : goal.returns-in-None-clause-kept
returns-in-None-clause-kept c = λ j l.
    held_none c.loop-j.held ((j : ℕ) → j < c.loop-j.j → NoneBetween c.args.m.now c.args.order.now.times c.args.i j) (λ e. UnlessMemory e (SomeStops c.args.budget c.args.m.now c.args.order.now.times e)) c.in-None.is c.loop-j.invariant.0
    j (let e : length c.as_slice-stmts.result.now ≡ length c.args.m.now.stmts = ap length c.as_slice-stmts.ensures in omega (arith, e, l))
