use Rattle.std.proofs.Common.{List, ℕ, sym, subst}
use Rattle.ac_top.specs.FlowReports.{FlowReports}
use Rattle.ac_top.specs.Reports.{report as a_report}
use Rattle.ac_top.specs.declared.status.Status.TheVariants as status
use Rattle.ac_top.proofs.Flowing.{flow_report, stop_report}
use Rattle.ac_top.proofs.flows.report_reads.Goals as goal

pub returns-in_ok-flow_text-in-Ok : goal.returns-in_ok-flow_text-in-Ok
returns-in_ok-flow_text-in-Ok c =
    let p = c.args.program.now in
    subst (λ (t : List ℕ). FlowReports p (a_report status.Done t)) (sym c.in_ok-flow_text-in-Ok.ensures) (flow_report p c.args.model.now c.in-Ok.found c.requires.model c.requires.valuation c.in-Ok.ensures.cases c.in-Ok.ensures.sources)

pub returns-in_ok-flow_stop_text-in-Err : goal.returns-in_ok-flow_stop_text-in-Err
returns-in_ok-flow_stop_text-in-Err c =
    let p = c.args.program.now in
    subst (FlowReports p) (sym c.stopped.ensures) (stop_report p c.args.model.now c.in-Err.stop c.in_ok-flow_stop_text-in-Err.field-0.items c.requires.model c.requires.valuation c.in-Err.ensures.stops c.in_ok-flow_stop_text-in-Err.ensures)
