use Rattle.std.proofs.Common.{rules}
use Rattle.ac_poly.proofs.Seeking.{seek_if, seek_many, seek_few}
use Rattle.ac_poly.proofs.first_fault.+seek.Goals as goal

pub seek-returns-in_ok-inner-in-If : goal.seek-returns-in_ok-inner-in-If
seek-returns-in_ok-inner-in-If t c =
    seek_if c.seek_all-in-If-2.result c.args.s.now c.in-If.cond c.in-If.taken c.in-If.other _ _ c.in-If.place c.args.number c.in_ok-next-in-If.next c.args.pieces c.in_ok-inner-in-If.inner
    c.in-If.is c.as_slice-in-If.ensures c.as_slice-in-If-2.ensures c.in_ok-next-in-If.ensures c.in_ok-inner-in-If.ensures c.seek_all-in-If-2.ensures

pub seek-returns-then-pieces-gt16 : goal.seek-returns-then-pieces-gt16
seek-returns-then-pieces-gt16 t c = seek_many c.args.s.now c.in-Assign.array c.in-Assign.subs c.in-Assign.value c.in-Assign.place c.args.number c.args.pieces c.in-Assign.is (search rules)

pub seek-returns-else-pieces-gt16 : goal.seek-returns-else-pieces-gt16
seek-returns-else-pieces-gt16 t c = seek_few c.args.s.now c.in-Assign.array c.in-Assign.subs c.in-Assign.value c.in-Assign.place c.args.number c.args.pieces c.in-Assign.is (search rules)
