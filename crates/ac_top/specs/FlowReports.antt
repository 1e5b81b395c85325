-- What `flow` reports of a program: where each of its reads has its value from, at each valuation of its own context.
use Rattle.std.specs.Prelude.{◌≡◌, ℕ, ℤ, List, [], length, true, Some}
use Rattle.ac_syntax.specs.Index.{point, holds}
use Rattle.ac_syntax.specs.declared.tree.Program.{Program}
use Rattle.ac_poly.specs.Model.{model_of}
use Rattle.ac_poly.specs.declared.types.Model.{Model}
use Rattle.ac_flow.specs.Contexts.{ContextStops}
use Rattle.ac_flow.specs.Flows.{CasesAreSources}
use Rattle.ac_flow.specs.Readers.{readers, AreFlows, StopsAmong}
use Rattle.ac_flow.specs.declared.types.ContextStop.{ContextStop}
use Rattle.ac_flow.specs.declared.types.ContextStop.TheVariants.{EmptyContext, Overflow, Spent, Memory}
use Rattle.ac_flow.specs.declared.types.Flow.{Flow}
use Rattle.ac_flow.specs.declared.types.FlowStop.{FlowStop}
use Rattle.ac_report.specs.FlowTexts.{flow_lines}
use Rattle.ac_report.specs.Layouts.{layout_of}
use Rattle.ac_report.specs.ReportTexts.{context_stop_text, flow_stop_text}
use Rattle.ac_walk.specs.UnknownCauses.{HasValuation}
use Rattle.ac_top.specs.Reports.{Report, report}
use Rattle.ac_top.specs.ConsoleLines.{empty_context_line}
use Rattle.ac_top.specs.declared.status.Status.TheVariants as status

-- the greatest cost of a question
abbrev pub default_budget : ℕ
default_budget = 50000

-- an integer for each parameter, so that the program's context holds
pub record IsValuationOf (program : Program) (params : List ℤ) : Type 0 where
  pub each : length params ≡ length program.params
  pub context : holds (point params []) program.context ≡ true

-- the program under its own context, as rows over integers
abbrev pub lowered : Program → Model
lowered program = model_of program program.context

-- the reads of the program with their cases: at each valuation each case is left exactly where it is the source
pub record IsFlowOf (program : Program) (flow : Flow) : Type 0 where
  pub reads : AreFlows (lowered program) (readers (lowered program)) flow.reads
  pub sources : CasesAreSources (lowered program) flow

-- the question of the context has no answer
abbrev pub IsUnanswered : ContextStop → Type 0
IsUnanswered EmptyContext = ⊥
IsUnanswered (Overflow q) = Unit {0}
IsUnanswered (Spent q cost) = Unit {0}
IsUnanswered (Memory e) = ⊥

-- what is reported: that no valuation meets the context, as its question shows; that this question is too wide or costs too much; or, where it has
-- a valuation, that a question of the flow does so, or that a read has too many pieces; or the lines of the flow
pub data FlowReports (program : Program) : Report → Type 0 where
  no_valuation : ContextStops default_budget (lowered program) EmptyContext → ((params : List ℤ) → ¬ (IsValuationOf program params)) → FlowReports program (report status.Refused empty_context_line)
  context_stopped : (stop : ContextStop) (text : List ℕ) → IsUnanswered stop → ContextStops default_budget (lowered program) stop → context_stop_text stop ≡ Some text → FlowReports program (report status.Stopped text)
  flow_stopped : (stop : FlowStop) (text : List ℕ) → HasValuation default_budget (lowered program) → StopsAmong default_budget (lowered program) (readers (lowered program)) stop → flow_stop_text stop ≡ Some text → FlowReports program (report status.Stopped text)
  flowed : (flow : Flow) → HasValuation default_budget (lowered program) → IsFlowOf program flow → FlowReports program (report status.Done (flow_lines (layout_of program) flow.reads))
