-- What the search over the arrangements hands on.
use Rattle.std.specs.Prelude.{◌≡◌, ◌⊎◌, ◌<◌, ℕ, ℤ, List, Option, None, Some, Bool, true, false, IsSome}
use Rattle.ac_syntax.specs.ExecutedCalls.{HaveArities}
use Rattle.ac_syntax.specs.Outputs.{IsValuation, SameOutput}
use Rattle.ac_syntax.specs.declared.tree.Pair.{Pair}
use Rattle.ac_assoc.specs.ArrangementFaults.{fault_of}
use Rattle.ac_assoc.specs.ProgramChains.{chains_of_pair}
use Rattle.ac_flow.specs.Contexts.{ContextStops}
use Rattle.ac_flow.specs.Readers.{AreFlows, readers}
use Rattle.ac_flow.specs.declared.types.ContextStop.{ContextStop}
use Rattle.ac_flow.specs.declared.types.ContextStop.TheVariants.{EmptyContext}
use Rattle.ac_flow.specs.declared.types.Flow.{Flow}
use Rattle.ac_forms.specs.Rows.{Meets}
use Rattle.ac_poly.specs.declared.types.Model.{Model}
use Rattle.ac_report.specs.declared.types.Verdict.{Verdict}
use Rattle.ac_report.specs.declared.types.Verdict.TheVariants.{Equal, Different, Unknown}
use Rattle.ac_walk.specs.MatchedOutputs.{IsMatched}
use Rattle.ac_walk.specs.UnknownCauses.{context_cause_of, left_model, right_model}
use Rattle.ac_top.specs.ArrangementReports.{arrangement, EndsAfterRuns, FlowIsStopped, IsApart, IsApartBefore, IsUnknownBefore}
use Rattle.ac_top.specs.FlowReports.{default_budget}
use Rattle.ac_top.specs.ProgramAnswers.{AreLowered}
use Rattle.ac_top.specs.RunStages.{IsReadPair}
use Rattle.ac_top.specs.declared.arrangements.Early.{Early}
use Rattle.ac_top.specs.declared.arrangements.Regrouped.{Regrouped}
use Rattle.ac_top.specs.declared.findings.Finding.{Finding}
use Rattle.ac_top.specs.declared.findings.Finding.TheVariants as finding

-- a pair that was read, whose programs are lowered, with its chains, which have no fault
pub record IsRegrouped (asked : Regrouped) : Type 0 where
  pub chains : asked.chains.now ≡ chains_of_pair asked.symbols.now asked.pair.now
  pub fault : fault_of asked.symbols.now asked.pair.now ≡ None
  pub read : IsReadPair asked.pair.now
  pub arities : HaveArities asked.pair.now.left.body × HaveArities asked.pair.now.right.body
  pub lowered : AreLowered asked.pair.now

-- the one output of a pair is the same, some order has no mismatch, and some valuation meets the context
pub record IsFoundEqual (pair : Pair) (output : ℕ) : Type 0 where
  pub same : SameOutput pair output
  pub matched : IsMatched pair output
  pub params : List ℤ
  pub valuation : IsValuation pair params

-- what the search finds of the one output of a pair
abbrev pub IsFinding : Pair → ℕ → Finding → Type 0
IsFinding pair output finding.Equal = IsFoundEqual pair output
IsFinding pair output finding.Apart = IsApart pair output
IsFinding pair output (finding.Early words) = EndsAfterRuns pair output words.now

-- the valuation that is kept behind a verdict: that at which an element differs, else the one that was kept before
abbrev pub kept_behind : Verdict → List ℤ → List ℤ
kept_behind Equal last = last
kept_behind (Different at element) last = at
kept_behind (Unknown cause) last = last

-- what is known after so many arrangements: that the output is apart in each; or the first early end, and that it is unknown in each
abbrev pub IsSoFar : List (List ℕ) → Pair → (output count : ℕ) → Option Early → Type 0
IsSoFar names pair output count None = IsApartBefore names pair output count
IsSoFar names pair output count (Some first) =
    (first.number < count) × EndsAfterRuns (arrangement names pair output first.number) output first.words.now × IsApartBefore names pair output first.number
    × IsUnknownBefore names pair output count

-- at the budget the question of the context is too wide or too costly
abbrev pub ContextIsStopped : Model → Type 0
ContextIsStopped m = (stop : ContextStop) × ContextStops default_budget m stop × IsSome (context_cause_of stop)

-- what stands before the search of two programs stops: the question of their context, or the flow of one of them
abbrev pub IsStopped : (left right : Model) → Type 0
IsStopped left right = ContextIsStopped left ⊎ FlowIsStopped left ⊎ FlowIsStopped right

-- whether the question of a context stops; else it has an answer
abbrev pub IfContextStops : Model → Bool → Type 0
IfContextStops m true = ContextIsStopped m
IfContextStops m false = ContextStops default_budget m EmptyContext ⊎ ((params : List ℤ) × Meets m.context params)

-- whether the flow of a program stops; else it has one
abbrev pub IfFlowStops : Model → Bool → Type 0
IfFlowStops m true = FlowIsStopped m
IfFlowStops m false = (flow : Flow) × AreFlows m (readers m) flow.reads

-- whether what stands before the search of two programs stops; else all of it has an answer
abbrev pub IfStops : (left right : Model) → Bool → Type 0
IfStops left right true = IsStopped left right
IfStops left right false = IfContextStops left false × IfFlowStops left false × IfFlowStops right false

-- whether it does in the first arrangement in which the search ends early; it is not asked in further ones
abbrev pub IfStopsFirst : Pair → Option Early → Bool → Type 0
IfStopsFirst pair None stops = IfStops (left_model pair) (right_model pair) stops
IfStopsFirst pair (Some first) stops = stops ≡ false
