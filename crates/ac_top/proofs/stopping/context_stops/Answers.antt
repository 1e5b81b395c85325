use Rattle.std.proofs.Common.{inl, inr, refl, subst}
use Rattle.ac_flow.specs.Contexts.{ContextStops}
use Rattle.ac_flow.specs.declared.types.ContextStop.TheVariants as stop
use Rattle.ac_top.specs.FlowReports.{default_budget}
use Rattle.ac_top.proofs.stopping.context_stops.Goals as goal

pub returns-in-Ok : goal.returns-in-Ok
returns-in-Ok c = inr (c.in-Ok._point.items, c.in-Ok.ensures.point.1)

pub returns-in-Err-EmptyContext : goal.returns-in-Err-EmptyContext
returns-in-Err-EmptyContext c = inl (subst (ContextStops default_budget c.args.model.now) c.in-Err-EmptyContext.field-0-is c.in-Err-EmptyContext.ensures.stops)

pub returns-in-Err-Overflow : goal.returns-in-Err-Overflow
returns-in-Err-Overflow c =
    let h = subst (ContextStops default_budget c.args.model.now) c.in-Err-Overflow.field-0-is c.in-Err-Overflow.ensures.stops in
    (stop.Overflow c.in-Err-Overflow._question, h, refl)

pub returns-in-Err-Spent : goal.returns-in-Err-Spent
returns-in-Err-Spent c =
    let h = subst (ContextStops default_budget c.args.model.now) c.in-Err-Spent.field-0-is c.in-Err-Spent.ensures.stops in
    (stop.Spent c.in-Err-Spent._question c.in-Err-Spent._cost, h, refl)
