-- What stands before the search of a pair: the question of its context and the flows of both programs, at a budget; what is said of
-- each output where one of them stops; and where the search on an output may end.
use Rattle.std.specs.Prelude.{◌≡◌, ℕ, ℤ, List, length, Option, Some, None}
use Rattle.std.specs.List.{AllByRecursion}
use Rattle.ac_forms.specs.Rows.{Meets}
use Rattle.ac_omega_certify.specs.declared.strategy.Strategy.TheVariants.{Full}
use Rattle.ac_omega.specs.Decisions.{walk_of, EndsAt}
use Rattle.ac_syntax.specs.declared.tree.Pair.{Pair}
use Rattle.ac_poly.specs.Model.{model_of}
use Rattle.ac_poly.specs.declared.types.Model.{Model}
use Rattle.ac_flow.specs.Contexts.{ContextStops}
use Rattle.ac_flow.specs.Flows.{CasesAreSources}
use Rattle.ac_flow.specs.Readers.{AreFlows, StopsAmong, readers}
use Rattle.ac_flow.specs.Writings.{over}
use Rattle.ac_flow.specs.declared.types.ContextStop.{ContextStop}
use Rattle.ac_flow.specs.declared.types.ContextStop.TheVariants as context
use Rattle.ac_flow.specs.declared.types.Flow.{Flow}
use Rattle.ac_flow.specs.declared.types.FlowStop.{FlowStop}
use Rattle.ac_flow.specs.declared.types.FlowStop.TheVariants as flow
use Rattle.ac_report.specs.declared.types.Cause.{Cause}
use Rattle.ac_report.specs.declared.types.Cause.TheVariants as cause
use Rattle.ac_report.specs.declared.types.Verdict.{Verdict}
use Rattle.ac_report.specs.declared.types.Verdict.TheVariants.{Equal, Different, Unknown}
use Rattle.ac_unfold.specs.declared.types.UnfoldStop.TheVariants as unfolded
use Rattle.ac_walk.specs.OutputStops.{UnfoldingStops}
use Rattle.ac_walk.specs.Verdicts.{OnEach}
use Rattle.ac_walk.specs.declared.verdict_types.ProveStop.{ProveStop}
use Rattle.ac_walk.specs.declared.verdict_types.ProveStop.TheVariants.{EmptyContext, Memory}

-- the models of both programs of a pair, under its context
abbrev pub left_model : Pair → Model
left_model pair = model_of pair.left pair.context

abbrev pub right_model : Pair → Model
right_model pair = model_of pair.right pair.context

-- the cause that the stop of a flow gives; none for want of memory
abbrev pub cause_of : FlowStop → Option Cause
cause_of (flow.Overflow question) = Some (cause.OverflowQuestion question)
cause_of (flow.Spent question cost) = Some (cause.SpentQuestion question cost)
cause_of (flow.Pieces position kept) = Some (cause.SpentPieces position kept)
cause_of (flow.Memory want) = None

-- the same of the question of a context; none where it has no valuation
abbrev pub context_cause_of : ContextStop → Option Cause
context_cause_of context.EmptyContext = None
context_cause_of (context.Overflow question) = Some (cause.OverflowQuestion question)
context_cause_of (context.Spent question cost) = Some (cause.SpentQuestion question cost)
context_cause_of (context.Memory want) = None

-- unknown, with this cause; or an element differs
abbrev pub IsUnknownFor : Option Cause → Verdict → Type 0
IsUnknownFor why Equal = ⊥
IsUnknownFor why (Different at element) = Unit {0}
IsUnknownFor why (Unknown given) = why ≡ Some given

-- so each output is
abbrev pub AreUnknown : Option Cause → List Verdict → Type 0
AreUnknown why verdicts = AllByRecursion (IsUnknownFor why) verdicts

-- at the budget the question of the context gives this point
abbrev pub IsContextPoint : ℕ → Model → List ℤ → Type 0
IsContextPoint budget m point = EndsAt point (over m.params m.context) (walk_of Full budget (over m.params m.context))

-- at the budget the question of the context has an answer: this valuation
pub record HasValuation (budget : ℕ) (m : Model) : Type 0 where
  pub point : List ℤ
  pub found : IsContextPoint budget m point
  pub each : length point ≡ m.params
  pub meets : Meets m.context point

-- the program has a flow: the sources of its reads and outputs
pub record HasFlow (m : Model) : Type 0 where
  pub flow : Flow
  pub cases : AreFlows m (readers m) flow.reads
  pub sources : CasesAreSources m flow

-- the search on an output may end with the cause at a budget: an unfolding asks a question that is too wide or too costly, or it cannot form a row that comes
-- next at one, or it reaches the ends of too many paths; and no read has too many pieces
abbrev pub EndsSearch : ℕ → Pair → ℕ → Cause → Type 0
EndsSearch budget pair output (cause.Unmatched refuted) = Unit {0}
EndsSearch budget pair output (cause.OverflowQuestion question) = UnfoldingStops budget pair output (unfolded.Overflow question)
EndsSearch budget pair output (cause.OverflowHull members) = Unit {0}
EndsSearch budget pair output (cause.SpentQuestion question cost) = UnfoldingStops budget pair output (unfolded.Spent question cost)
EndsSearch budget pair output (cause.SpentPieces position kept) = ⊥
EndsSearch budget pair output (cause.SpentPaths paths) = UnfoldingStops budget pair output (unfolded.Paths paths)
EndsSearch budget pair output (cause.SpentOrders refuted) = Unit {0}

-- and with the verdict
abbrev pub IsSearched : ℕ → Pair → ℕ → Verdict → Type 0
IsSearched budget pair output Equal = Unit {0}
IsSearched budget pair output (Different at element) = Unit {0}
IsSearched budget pair output (Unknown why) = EndsSearch budget pair output why

-- of each output with its verdict
abbrev pub AreSearched : ℕ → Pair → List ℕ → List Verdict → Type 0
AreSearched budget pair = OnEach (IsSearched budget pair)

-- what the verdicts on a pair rest on: the question of its context stops, or else the flow of the first program, or else that of the
-- second, and each output is unknown for this cause unless an element differs; or there are both flows, and the search on each output
-- ends with its verdict
pub data IsAnswered (budget : ℕ) (pair : Pair) (verdicts : List Verdict) : Type 0 where
  context_stopped : (stop : ContextStop) → ContextStops budget (left_model pair) stop → AreUnknown (context_cause_of stop) verdicts → IsAnswered budget pair verdicts
  left_stopped : (stop : FlowStop) → HasValuation budget (left_model pair) → StopsAmong budget (left_model pair) (readers (left_model pair)) stop → AreUnknown (cause_of stop) verdicts
      → IsAnswered budget pair verdicts
  right_stopped : (stop : FlowStop) → HasValuation budget (left_model pair) → HasFlow (left_model pair) → StopsAmong budget (right_model pair) (readers (right_model pair)) stop → AreUnknown (cause_of stop) verdicts
      → IsAnswered budget pair verdicts
  searched : HasValuation budget (left_model pair) → HasFlow (left_model pair) → HasFlow (right_model pair) → AreSearched budget pair pair.outputs verdicts → IsAnswered budget pair verdicts

-- at the budget the question of the context has an answer: that there is no valuation
abbrev pub IsEmptyAt : ℕ → Pair → ProveStop → Type 0
IsEmptyAt budget pair EmptyContext = ContextStops budget (left_model pair) context.EmptyContext
IsEmptyAt budget pair (Memory want) = Unit {0}
