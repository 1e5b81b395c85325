-- What is reported of an order.
use Rattle.std.proofs.Common.{◌≡◌, ℕ, ℤ, List, Some, subst}
use Rattle.ac_forms.specs.Affine.{Affine}
use Rattle.ac_syntax.specs.Algebra.{integers}
use Rattle.ac_syntax.specs.ReadyPrograms.{ReadyProgram}
use Rattle.ac_syntax.specs.Trace.{trace_of}
use Rattle.ac_syntax.specs.declared.tree.Program.{Program}
use Rattle.ac_poly.specs.Model.{HasContext}
use Rattle.ac_poly.specs.declared.types.Model.{Model}
use Rattle.ac_flow.specs.Contexts.{ContextStops}
use Rattle.ac_flow.specs.declared.types.ContextStop.{ContextStop}
use Rattle.ac_flow.specs.declared.types.ContextStop.TheVariants.{EmptyContext}
use Rattle.ac_flow.specs.declared.types.ContextStop.TheVariants as context
use Rattle.ac_legal_law.specs.Schedules.{ScheduleKeepsOrder, time_of}
use Rattle.ac_legal_law.proofs.Ascending.{ascending_pairs, kept_pairs}
use Rattle.ac_legal_law.proofs.Permuted.{from_permutation}
use Rattle.ac_legal_law.proofs.Reordered.{run_reordered}
use Rattle.ac_legal.specs.QuestionChoices.{UnlessMemory}
use Rattle.ac_legal.specs.ScheduleAnswers.{SomeStops, NoDecidedQuestionHasAPoint, KeepsForAll, BreaksForAll}
use Rattle.ac_legal.specs.declared.types.LegalStop.{LegalStop}
use Rattle.ac_legal.specs.declared.types.LegalStop.TheVariants.{Overflow, Spent, Memory}
use Rattle.ac_legal_text.specs.BrokenLines.{broken_line}
use Rattle.ac_report.specs.ReportTexts.{context_stop_text}
use Rattle.ac_walk.specs.UnknownCauses.{HasValuation}
use Rattle.ac_top.specs.FlowReports.{default_budget, lowered}
use Rattle.ac_top.specs.OrderReports.{OrderReports, no_valuation, context_stopped, order_stopped, kept, broken, stop_text, ReordersToTheSame}
use Rattle.ac_top.specs.Reports.{report as a_report}
use Rattle.ac_top.specs.ConsoleLines.{empty_context_line, kept_line}
use Rattle.ac_top.specs.declared.status.Status.TheVariants as status
use Rattle.ac_top.proofs.Flowing.{stop_status}

pub kept_orders_reorder : (times : List (List Affine)) (program : Program) → ScheduleKeepsOrder times program program.context → ReordersToTheSame times program
kept_orders_reorder times program k = λ params v es q n table contents cell.
    λ i. run_reordered (integers table) (time_of times params) (trace_of program.body params) es contents (kept_pairs (time_of times params) (trace_of program.body params) (k params v)) (ascending_pairs (time_of times params) es n)
    (from_permutation (trace_of program.body params) es q) i cell

pub context_order : (program : Program) (times : List (List Affine)) (stop : ContextStop) (text : List ℕ) → HasContext program.context (lowered program) → ContextStops default_budget (lowered program) stop → context_stop_text stop ≡ Some text
    → OrderReports program times (a_report (stop_status stop) text)
context_order program times EmptyContext text has stops is =
    let same : empty_context_line ≡ text = cc in
    subst (λ t. OrderReports program times (a_report status.Refused t)) same (no_valuation stops (λ params v. stops.1 params v.each ((has params v.each).1 v.context)))
context_order program times (context.Overflow q) text has stops is = context_stopped (context.Overflow q) text tt stops is
context_order program times (context.Spent q cost) text has stops is = context_stopped (context.Spent q cost) text tt stops is
context_order program times (context.Memory e) text has stops is = absurd cc

pub kept_order : (program : Program) (model : Model) (times : List (List Affine)) → ReadyProgram program → model ≡ lowered program → HasValuation default_budget (lowered program) → KeepsForAll model times → OrderReports program times (a_report status.Done kept_line)
kept_order program model times ready is valuation keeps = kept valuation (keeps program program.context ready ready.context is)

pub broken_order : (program : Program) (model : Model) (times : List (List Affine)) (at : List ℤ) (i : ℕ) (xs : List ℤ) (j : ℕ) (ys : List ℤ) → ReadyProgram program → model ≡ lowered program → HasValuation default_budget (lowered program)
    → BreaksForAll model times at i xs j ys → OrderReports program times (a_report status.Different (broken_line at i xs j ys))
broken_order program model times at i xs j ys ready is valuation breaks = broken at i xs j ys valuation (breaks program program.context ready ready.context is)

pub stopped_order : (program : Program) (model : Model) (times : List (List Affine)) (stop : LegalStop) (text : List ℕ) → model ≡ lowered program → HasValuation default_budget (lowered program) → UnlessMemory stop (SomeStops default_budget model times stop)
    → UnlessMemory stop (NoDecidedQuestionHasAPoint default_budget model times) → stop_text stop ≡ Some text → OrderReports program times (a_report status.Stopped text)
stopped_order program model times (Overflow q) text is valuation stops decided shown =
    order_stopped (Overflow q) text valuation (subst (λ m. SomeStops default_budget m times (Overflow q)) is stops) (subst (λ m. NoDecidedQuestionHasAPoint default_budget m times) is decided) shown
stopped_order program model times (Spent q cost) text is valuation stops decided shown =
    order_stopped (Spent q cost) text valuation (subst (λ m. SomeStops default_budget m times (Spent q cost)) is stops) (subst (λ m. NoDecidedQuestionHasAPoint default_budget m times) is decided) shown
stopped_order program model times (Memory e) text is valuation stops decided shown = absurd cc
