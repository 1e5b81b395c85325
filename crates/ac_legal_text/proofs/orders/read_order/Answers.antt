use Rattle.std.proofs.Common.{arith, ◌≡◌, ◌∙◌, ◌++◌, ap, [], List, sym, subst, drop}
use Rattle.ac_forms.specs.Affine.{Affine}
use Rattle.ac_legal_text.specs.LineKinds.{HasFault, no_head, wrong_line}
use Rattle.ac_legal_text.specs.OrderTexts.{AreTimes, head_line, columns_of}
use Rattle.ac_legal_text.proofs.Lines.{shorter, whole_order, on_line}
use Rattle.ac_legal_text.proofs.orders.read_order.Goals as goal

pub returns-in_default-clause-fault : goal.returns-in_default-clause-fault
returns-in_default-clause-fault c = no_head c.in_default.ensures

pub read_assignments-requires-clause-room : goal.read_assignments-requires-clause-room
read_assignments-requires-clause-room c = let less = shorter c.args.bytes.now (head_line c.in-Some.levels) c.in-Some.rest.now c.in-Some.ensures.1 in omega (arith, less)

pub returns-in-Ok-clause-spelled : goal.returns-in-Ok-clause-spelled
returns-in-Ok-clause-spelled c =
    let h = c.in-Ok.ensures.times in
    let times = h.1 ∙ ap (λ (xs : List (List Affine)). xs ++ h.0) c.new-times.ensures in
    whole_order c.args.m.now c.in-Some.levels c.args.bytes.now c.in-Some.rest.now c.read_assignments.new.times h.0 c.in-Some.ensures.0 c.in-Some.ensures.1 times h.2 h.3

pub returns-in-Err-clause-fault : goal.returns-in-Err-clause-fault
returns-in-Err-clause-fault c = on_line c.in-Err.fault _ _ (λ n k. wrong_line c.in-Some.levels n c.in-Some.rest.now c.in-Some.ensures.0 c.in-Some.ensures.1 k) c.in-Err.ensures.fault
