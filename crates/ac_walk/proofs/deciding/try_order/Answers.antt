use Rattle.std.proofs.Common.{subst, sym, refl}
use Rattle.ac_report.specs.declared.types.Cause.{Cause}
use Rattle.ac_walk.specs.SearchStops.{EndsEarly}
use Rattle.ac_unfold_plans.specs.ArgumentOrders.{order_of}
use Rattle.ac_walk.specs.OutputDecisions.{IsDecision}
use Rattle.ac_walk.specs.OutputStops.{IsOrderOfSites}
use Rattle.ac_walk.specs.declared.deciding.Decision.TheVariants.{Unknown}
use Rattle.ac_walk.proofs.Refuting.{early_decides}
use Rattle.ac_walk.proofs.deciding.try_order.Goals as goal

pub returns-in-Err-Early-clause-further : goal.returns-in-Err-Early-clause-further
returns-in-Err-Early-clause-further c =
    let s = c.args.search.now in
    let order = c.args.order.now in
    let cause = c.in-Err-Early.cause in
    let of : IsOrderOfSites s.pair.now s.array (order_of order) = record { sites = c.args.orders.now.sites; sites_are = c.requires.sites; chosen = order; whole = c.requires.next.0; order_is = refl } in
    subst (λ (why : Cause). IsDecision s c.args.number (Unknown why)) (sym c.in-Err-Early.cause-is) (early_decides s c.args.number order cause c.requires.search of (subst (EndsEarly s order) c.in-Err-Early.field-0-is c.in-Err-Early.ensures.causes))
