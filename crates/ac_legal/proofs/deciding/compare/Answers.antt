use Rattle.std.proofs.Common.{◌≡◌, sym, subst, Some, IfSome}
use Rattle.ac_legal.specs.ScheduleAnswers.{IsPointBetween, StopsBetween, SomeStops}
use Rattle.ac_legal.proofs.Trying.{some_of, unless_map}
use Rattle.ac_legal.proofs.deciding.compare.Goals as goal

pub broken_at-requires-clause-point : goal.broken_at-requires-clause-point
broken_at-requires-clause-point c =
    let z : c.in-Ok-Some.field-0 ≡ Some c.in-Ok-Some.point = c.in-Ok-Some.field-0-is in
    let y : IfSome c.in-Ok-Some.field-0 (λ p. IsPointBetween c.args.m.now c.args.order.now.times c.args.two.now.i c.args.two.now.first.now c.args.two.now.j c.args.two.now.second.now p.items) = c.in-Ok-Some.ensures.point in
    subst (IsPointBetween c.args.m.now c.args.order.now.times c.args.two.now.i c.args.two.now.first.now c.args.two.now.j c.args.two.now.second.now) (sym c.as_slice.ensures.value)
    (some_of c.in-Ok-Some.field-0 c.in-Ok-Some.point (λ p. IsPointBetween c.args.m.now c.args.order.now.times c.args.two.now.i c.args.two.now.first.now c.args.two.now.j c.args.two.now.second.now p.items) z y)

pub returns-in-Err-clause-stops : goal.returns-in-Err-clause-stops
returns-in-Err-clause-stops c =
    unless_map c.in-Err.stop
    (StopsBetween c.args.budget c.args.m.now c.args.order.now.times c.args.two.now.i c.args.two.now.first.now c.args.two.now.j c.args.two.now.second.now c.in-Err.stop) (SomeStops c.args.budget c.args.m.now c.args.order.now.times c.in-Err.stop)
    (λ h. record { i = c.args.two.now.i; j = c.args.two.now.j; first = c.args.two.now.first.now; second = c.args.two.now.second.now; are = c.requires.stmts; stops = h }) c.in-Err.ensures.stops
