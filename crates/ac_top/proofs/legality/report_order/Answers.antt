use Rattle.std.proofs.Common.{subst}
use Rattle.ac_poly.specs.Model.{HasContext}
use Rattle.ac_flow.specs.Contexts.{ContextStops}
use Rattle.ac_walk.specs.UnknownCauses.{HasValuation}
use Rattle.ac_top.specs.FlowReports.{default_budget}
use Rattle.ac_top.proofs.legality.report_order.Goals as goal

pub report_no_valuation-requires-clause-context : goal.report_no_valuation-requires-clause-context
report_no_valuation-requires-clause-context c = subst (HasContext c.args.program.now.context) c.requires.model c.requires.context

pub report_no_valuation-requires-clause-stop : goal.report_no_valuation-requires-clause-stop
report_no_valuation-requires-clause-stop c = subst (λ m. ContextStops default_budget m c.in-Err.stop) c.requires.model c.in-Err.ensures.stops

pub report_schedule-requires-clause-valuation : goal.report_schedule-requires-clause-valuation
report_schedule-requires-clause-valuation c =
    subst (HasValuation default_budget) c.requires.model (record { point = c.in-Ok._point.items; found = c.in-Ok.ensures.exact; each = c.in-Ok.ensures.point.0; meets = c.in-Ok.ensures.point.1 })
