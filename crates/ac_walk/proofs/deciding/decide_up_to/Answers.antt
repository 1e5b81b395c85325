use Rattle.std.proofs.Common.{List, sym, subst}
use Rattle.ac_match.specs.SiteOrders.{IsNext}
use Rattle.ac_match.specs.declared.orders.Next.{Next}
use Rattle.ac_match.specs.declared.orders.Refuted.{Refuted}
use Rattle.ac_report.specs.declared.types.Cause.TheVariants.{SpentOrders, Unmatched}
use Rattle.ac_walk.specs.OutputDecisions.{IsDecision}
use Rattle.ac_walk.specs.declared.deciding.Decision.TheVariants.{Unknown}
use Rattle.ac_walk.proofs.Refuting.{spent_decides, unmatched_decides}
use Rattle.ac_walk.proofs.deciding.decide_up_to.Goals as goal

pub returns-in-Done : goal.returns-in-Done
returns-in-Done c =
    let s = c.args.search.now in
    let o = c.loop-order.orders in
    let h = c.loop-order.invariant in
    subst (λ (list : List Refuted). IsDecision s c.args.number (Unknown (Unmatched list))) (sym c.into_refuted.ensures)
    (unmatched_decides s c.args.number o c.requires.search h.0 h.1 (subst (λ (next : Next). IsNext o next) c.in-Done.is c.in_ok-order.ensures))

pub returns-in-Spent : goal.returns-in-Spent
returns-in-Spent c =
    let s = c.args.search.now in
    let o = c.loop-order.orders in
    let h = c.loop-order.invariant in
    subst (λ (list : List Refuted). IsDecision s c.args.number (Unknown (SpentOrders list))) (sym c.into_refuted-in-Spent.ensures)
    (spent_decides s c.args.number o c.requires.search h.0 h.1 (subst (λ (next : Next). IsNext o next) c.in-Spent.is c.in_ok-order.ensures))
