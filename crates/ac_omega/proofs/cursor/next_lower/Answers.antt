use Rattle.std.proofs.Common.{Some, None, arith}
use Rattle.ac_omega.proofs.Advances.{lower-at, lower-past, next-of}
use Rattle.ac_omega.proofs.cursor.next_lower.Goals as goal

pub returns-in-Ok-None : goal.returns-in-Ok-None
returns-in-Ok-None c =
    (_, lower-at c.args.strategy c.args.z c.loop-i.i c.args.rows.now c.index-rows-i.result None _ c.loop-i-test.true c.index-rows-i.is c.loop-i.invariant (rw c.in-Ok-None.field-0-is at c.in-Ok-None.ensures.value))

pub returns-in-Ok-Some : goal.returns-in-Ok-Some
returns-in-Ok-Some c =
    next-of c.args.strategy c.args.z c.args.rows.now c.first_splinter.result _ _
    (lower-at c.args.strategy c.args.z c.loop-i.i c.args.rows.now c.index-rows-i.result (Some c.in-Ok-Some.count) _ c.loop-i-test.true c.index-rows-i.is c.loop-i.invariant (rw c.in-Ok-Some.field-0-is at c.in-Ok-Some.ensures.value)) c.first_splinter.ensures

pub loop-i-preserved : goal.loop-i-preserved
loop-i-preserved c = lower-past c.args.strategy c.args.z c.loop-i.i c.in-Ok-Some-eq0.field-0-0 c.args.rows.now c.index-rows-i.result _ c.loop-i-test.true c.index-rows-i.is c.loop-i.invariant (omega arith) (rw c.in-Ok-Some-eq0.field-0-is at c.in-Ok-Some-eq0.ensures.value)
