-- What is reported of the flow of a program.
use Rattle.std.proofs.Common.{◌≡◌, ℕ, List, Some, subst}
use Rattle.ac_syntax.specs.ReadyPrograms.{ReadyProgram}
use Rattle.ac_syntax.specs.declared.tree.Program.{Program}
use Rattle.ac_poly.specs.Model.{HasContext}
use Rattle.ac_poly.specs.declared.types.Model.{Model}
use Rattle.ac_flow.specs.Contexts.{ContextStops}
use Rattle.ac_flow.specs.Flows.{CasesAreSources}
use Rattle.ac_flow.specs.Readers.{IsLowered, readers, AreFlows, StopsAmong}
use Rattle.ac_flow.specs.declared.types.ContextStop.{ContextStop}
use Rattle.ac_flow.specs.declared.types.ContextStop.TheVariants.{EmptyContext, Overflow, Spent, Memory}
use Rattle.ac_flow.specs.declared.types.Flow.{Flow}
use Rattle.ac_flow.specs.declared.types.FlowStop.{FlowStop}
use Rattle.ac_report.specs.FlowTexts.{flow_lines}
use Rattle.ac_report.specs.Layouts.{layout_of}
use Rattle.ac_report.specs.ReportTexts.{context_stop_text, flow_stop_text}
use Rattle.ac_walk.specs.UnknownCauses.{HasValuation}
use Rattle.ac_top.specs.FlowReports.{FlowReports, no_valuation, context_stopped, flow_stopped, flowed, lowered, default_budget}
use Rattle.ac_top.specs.Reports.{report as a_report}
use Rattle.ac_top.specs.ConsoleLines.{empty_context_line}
use Rattle.ac_top.specs.declared.status.Status.{Status}
use Rattle.ac_top.specs.declared.status.Status.TheVariants as status

pub is_lowered : (program : Program) (model : Model) → ReadyProgram program → model ≡ lowered program → IsLowered model
is_lowered program model ready is = record { program = program; context = program.context; ready = ready; fit = ready.context; is = is }

-- an empty context is refused, and of every other stop the text is shown
abbrev pub stop_status : ContextStop → Status
stop_status EmptyContext = status.Refused
stop_status (Overflow q) = status.Stopped
stop_status (Spent q cost) = status.Stopped
stop_status (Memory e) = status.Stopped

pub context_report : (program : Program) (stop : ContextStop) (text : List ℕ) → HasContext program.context (lowered program) → ContextStops default_budget (lowered program) stop → context_stop_text stop ≡ Some text
    → FlowReports program (a_report (stop_status stop) text)
context_report program EmptyContext text has stops is =
    let same : empty_context_line ≡ text = cc in
    subst (λ t. FlowReports program (a_report status.Refused t)) same (no_valuation stops (λ params v. stops.1 params v.each ((has params v.each).1 v.context)))
context_report program (Overflow q) text has stops is = context_stopped (Overflow q) text tt stops is
context_report program (Spent q cost) text has stops is = context_stopped (Spent q cost) text tt stops is
context_report program (Memory e) text has stops is = absurd cc

pub flow_report : (program : Program) (model : Model) (f : Flow) → model ≡ lowered program → HasValuation default_budget (lowered program) → AreFlows model (readers model) f.reads → CasesAreSources model f → FlowReports program (a_report status.Done (flow_lines (layout_of program) f.reads))
flow_report program model f is valuation reads sources = flowed f valuation (record {
  reads = subst (λ m. AreFlows m (readers m) f.reads) is reads;
  sources = subst (λ m. CasesAreSources m f) is sources;
})

pub stop_report : (program : Program) (model : Model) (stop : FlowStop) (text : List ℕ) → model ≡ lowered program → HasValuation default_budget (lowered program) → StopsAmong default_budget model (readers model) stop → flow_stop_text stop ≡ Some text → FlowReports program (a_report status.Stopped text)
stop_report program model stop text is valuation stops shown = flow_stopped stop text valuation (subst (λ m. StopsAmong default_budget m (readers m) stop) is stops) shown
