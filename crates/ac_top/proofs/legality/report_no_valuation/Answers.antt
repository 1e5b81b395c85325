use Rattle.std.proofs.Common.{sym, subst}
use Rattle.ac_top.specs.OrderReports.{OrderReports}
use Rattle.ac_top.specs.Reports.{report as a_report}
use Rattle.ac_top.proofs.Flowing.{stop_status}
use Rattle.ac_top.proofs.Orders.{context_order}
use Rattle.ac_top.proofs.legality.report_no_valuation.Goals as goal

pub returns-in-EmptyContext : goal.returns-in-EmptyContext
returns-in-EmptyContext c =
    let p = c.args.program.now in
    let times = c.args.order.now.times in
    let t = c.in_ok-text.text.items in
    subst (OrderReports p times) (sym c.refused.ensures) (subst (λ s. OrderReports p times (a_report (stop_status s) t)) c.in-EmptyContext.is (context_order p times c.args.stop.now t c.requires.context c.requires.stop c.in_ok-text.ensures))

pub returns-in-Overflow : goal.returns-in-Overflow
returns-in-Overflow c =
    let p = c.args.program.now in
    let times = c.args.order.now.times in
    let t = c.in_ok-text.text.items in
    subst (OrderReports p times) (sym c.answered.ensures) (subst (λ s. OrderReports p times (a_report (stop_status s) t)) c.in-Overflow.is (context_order p times c.args.stop.now t c.requires.context c.requires.stop c.in_ok-text.ensures))

pub returns-in-Spent : goal.returns-in-Spent
returns-in-Spent c =
    let p = c.args.program.now in
    let times = c.args.order.now.times in
    let t = c.in_ok-text.text.items in
    subst (OrderReports p times) (sym c.answered-in-Spent.ensures) (subst (λ s. OrderReports p times (a_report (stop_status s) t)) c.in-Spent.is (context_order p times c.args.stop.now t c.requires.context c.requires.stop c.in_ok-text.ensures))

pub returns-in-Memory : goal.returns-in-Memory
returns-in-Memory c =
    let p = c.args.program.now in
    let times = c.args.order.now.times in
    let t = c.in_ok-text.text.items in
    subst (OrderReports p times) (sym c.answered-in-Memory.ensures) (subst (λ s. OrderReports p times (a_report (stop_status s) t)) c.in-Memory.is (context_order p times c.args.stop.now t c.requires.context c.requires.stop c.in_ok-text.ensures))
