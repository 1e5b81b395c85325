use Rattle.std.proofs.Common.{refl, subst}
use Rattle.ac_flow.specs.Readers.{StopsAmong, readers}
use Rattle.ac_flow.specs.declared.types.FlowStop.TheVariants as stop
use Rattle.ac_top.specs.FlowReports.{default_budget}
use Rattle.ac_top.proofs.stopping.flow_stops.Goals as goal

pub returns-in-Ok : goal.returns-in-Ok
returns-in-Ok c = (c.in-Ok._flow, c.in-Ok.ensures.cases)

pub returns-in-Err-Overflow : goal.returns-in-Err-Overflow
returns-in-Err-Overflow c =
    let h = subst (StopsAmong default_budget c.args.model.now (readers c.args.model.now)) c.in-Err-Overflow.field-0-is c.in-Err-Overflow.ensures.stops in
    (stop.Overflow c.in-Err-Overflow._question, h, refl)

pub returns-in-Err-Spent : goal.returns-in-Err-Spent
returns-in-Err-Spent c =
    let h = subst (StopsAmong default_budget c.args.model.now (readers c.args.model.now)) c.in-Err-Spent.field-0-is c.in-Err-Spent.ensures.stops in
    (stop.Spent c.in-Err-Spent._question c.in-Err-Spent._cost, h, refl)

pub returns-in-Err-Pieces : goal.returns-in-Err-Pieces
returns-in-Err-Pieces c =
    let h = subst (StopsAmong default_budget c.args.model.now (readers c.args.model.now)) c.in-Err-Pieces.field-0-is c.in-Err-Pieces.ensures.stops in
    (stop.Pieces c.in-Err-Pieces._position c.in-Err-Pieces._kept, h, refl)
