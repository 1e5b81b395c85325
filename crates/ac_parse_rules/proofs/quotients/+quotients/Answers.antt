use Rattle.std.proofs.Common.{◌≡◌, IfOk, subst}
use Rattle.ac_parse_rules.proofs.Noting.{loop_at, branch_at}
use Rattle.ac_parse_rules.proofs.quotients.+quotients.Goals as goal

pub check_statement-returns-in-Loop : goal.check_statement-returns-in-Loop
check_statement-returns-in-Loop t c =
    let head = c.new-head.result in
    let same = c.new-head.ensures in
    subst (λ broken. IfOk c.check_loop.result (λ it. it ≡ broken))
    (loop_at c.args.names.now c.args.scope.now c.args.seen.now c.args.statement.now c.in-Loop.typed head.typed c.in-Loop.name head.name.now c.in-Loop.start head.start.now c.in-Loop.cond c.as_slice.result.now head.cond.now c.in-Loop.step
    c.in-Loop.body c.as_slice-in-Loop.result.now c.in-Loop.place
    c.in-Loop.is same.typed same.name same.start same.cond c.as_slice.ensures c.as_slice-in-Loop.ensures)
    c.check_loop.ensures

pub check_statement-returns-in_ok-right-in-Branch : goal.check_statement-returns-in_ok-right-in-Branch
check_statement-returns-in_ok-right-in-Branch t c =
    branch_at c.args.names.now c.args.scope.now c.args.seen.now c.args.statement.now c.in-Branch.cond c.as_slice-in-Branch.result.now c.in-Branch.taken c.in-Branch.other c.as_slice-in-Branch-3.result.now c.as_slice-in-Branch-5.result.now
    c.in-Branch.place c.in_ok-noted-in-Branch.noted c.as_slice-in-Branch-2.result.now c.as_slice-in-Branch-4.result.now c.in_ok-left-in-Branch.left c.in_ok-right-in-Branch.right c.earlier.result
    c.in-Branch.is c.as_slice-in-Branch.ensures c.in_ok-noted-in-Branch.ensures c.as_slice-in-Branch-2.ensures c.as_slice-in-Branch-4.ensures c.as_slice-in-Branch-3.ensures c.as_slice-in-Branch-5.ensures
    c.in_ok-left-in-Branch.ensures c.in_ok-right-in-Branch.ensures c.earlier.ensures
