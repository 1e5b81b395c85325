-- What `legal` reports of a program and a schedule: whether the schedule keeps the order of what conflicts in the program.
use Rattle.std.specs.Prelude.{◌≡◌, ℕ, ℤ, List, Option, Some}
use Rattle.std.specs.List.Sorted.{IsPermutation}
use Rattle.ac_forms.specs.Affine.{Affine}
use Rattle.ac_syntax.specs.Algebra.{Cell, run, integers}
use Rattle.ac_syntax.specs.Sameness.{leaves}
use Rattle.ac_syntax.specs.Trace.{Entry, trace_of}
use Rattle.ac_syntax.specs.declared.tree.Program.{Program}
use Rattle.ac_syntax.specs.declared.tree.Symbol.{Symbol}
use Rattle.ac_flow.specs.Contexts.{ContextStops}
use Rattle.ac_flow.specs.declared.types.ContextStop.{ContextStop}
use Rattle.ac_flow.specs.declared.types.ContextStop.TheVariants.{EmptyContext}
use Rattle.ac_flow.specs.declared.types.FlowStop.{FlowStop}
use Rattle.ac_flow.specs.declared.types.FlowStop.TheVariants as flow
use Rattle.ac_legal_law.specs.BrokenOrders.{BreaksAt}
use Rattle.ac_legal_law.specs.EntryTimes.{NeverFall}
use Rattle.ac_legal_law.specs.Schedules.{IsValuationOf as IsIn, ScheduleKeepsOrder, time_of}
use Rattle.ac_legal.specs.ScheduleAnswers.{SomeStops, NoDecidedQuestionHasAPoint}
use Rattle.ac_legal.specs.declared.types.LegalStop.{LegalStop}
use Rattle.ac_legal.specs.declared.types.LegalStop.TheVariants.{Overflow, Spent, Memory}
use Rattle.ac_legal_text.specs.BrokenLines.{broken_line}
use Rattle.ac_legal_text.specs.LineKinds.{HasFault}
use Rattle.ac_legal_text.specs.OrderTexts.{Spells}
use Rattle.ac_report.specs.ReportTexts.{context_stop_text, flow_stop_text}
use Rattle.ac_walk.specs.UnknownCauses.{HasValuation}
use Rattle.ac_top.specs.FlowReports.{IsValuationOf, IsUnanswered, default_budget, lowered}
use Rattle.ac_top.specs.Reports.{Report, report}
use Rattle.ac_top.specs.ConsoleLines.{empty_context_line, kept_line, order_fault_line}
use Rattle.ac_top.specs.declared.status.Status.TheVariants as status

-- a stop, as one of a flow
abbrev pub flow_stop_of : LegalStop → FlowStop
flow_stop_of (Overflow q) = flow.Overflow q
flow_stop_of (Spent q cost) = flow.Spent q cost
flow_stop_of (Memory e) = flow.Memory e

-- the text of a stop; want of memory has none
abbrev pub stop_text : LegalStop → Option (List ℕ)
stop_text stop = flow_stop_text (flow_stop_of stop)

-- what is reported of a schedule: that no valuation meets the context, as its question shows; that this question is too wide or costs too much; or,
-- where it has a valuation, that an order question does so or cannot be formed, and each that can be formed has no point or is left undecided; or that
-- the order is kept, or two instances between which it is broken
pub data OrderReports (program : Program) (times : List (List Affine)) : Report → Type 0 where
  no_valuation : ContextStops default_budget (lowered program) EmptyContext → ((params : List ℤ) → ¬ (IsValuationOf program params)) → OrderReports program times (report status.Refused empty_context_line)
  context_stopped : (stop : ContextStop) (text : List ℕ) → IsUnanswered stop → ContextStops default_budget (lowered program) stop → context_stop_text stop ≡ Some text → OrderReports program times (report status.Stopped text)
  order_stopped : (stop : LegalStop) (text : List ℕ) → HasValuation default_budget (lowered program) → SomeStops default_budget (lowered program) times stop → NoDecidedQuestionHasAPoint default_budget (lowered program) times
      → stop_text stop ≡ Some text → OrderReports program times (report status.Stopped text)
  kept : HasValuation default_budget (lowered program) → ScheduleKeepsOrder times program program.context → OrderReports program times (report status.Done kept_line)
  broken : (at : List ℤ) (i : ℕ) (xs : List ℤ) (j : ℕ) (ys : List ℤ) → HasValuation default_budget (lowered program) → BreaksAt program program.context times at i xs j ys → OrderReports program times (report status.Different (broken_line at i xs j ys))

-- what is reported of a text: its first line that is at fault, or what is reported of the schedule that it spells
pub data OrderTextReports (program : Program) (spelled : List ℕ) : Report → Type 0 where
  order_refused : (number : ℕ) → HasFault (lowered program) spelled number → OrderTextReports program spelled (report status.Refused (order_fault_line number))
  order_read : (times : List (List Affine)) (r : Report) → Spells (lowered program) spelled times → OrderReports program times r → OrderTextReports program spelled r

-- at each valuation each list of the entries of the trace along which times never fall leaves the same state as the trace, in every cell,
-- under every table and from all contents
abbrev pub ReordersToTheSame : List (List Affine) → Program → Type 0
ReordersToTheSame times program =
    (params : List ℤ) → IsIn program program.context params → (es : List Entry) → IsPermutation (trace_of program.body params) es → NeverFall (time_of times params) es
    → (table : Symbol → List ℤ → ℤ) (contents : Cell → ℤ) (c : Cell) → run (integers table) es contents c ≡ leaves program.body params table contents c
