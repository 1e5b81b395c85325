use Rattle.std.proofs.Common.{[], sym, subst}
use Rattle.ac_match.specs.SiteOrders.{OrdersOf}
use Rattle.ac_walk.specs.OutputDecisions.{AreShown}
use Rattle.ac_walk.proofs.Refuting.{is_shown, more_shown}
use Rattle.ac_walk.proofs.deciding.refute.Goals as goal

pub returns-clause-shown : goal.returns-clause-shown
returns-clause-shown c =
    let s = c.args.search.now in
    let o = c.args.orders.now in
    let partial = c.in_ok-partial.partial.items in
    λ shown. subst (λ (new : OrdersOf). AreShown s o.sites [] new.refuted) (sym c.in_ok-refute.ensures.ok)
    (more_shown s o.sites o.refuted (record { partial = partial; why = c.args.why }) shown (is_shown s o c.args.order.now c.args.why partial c.as_slice-2.result.now c.as_slice-2.ensures c.requires.next c.requires.mismatch c.in_ok-partial.ensures))
