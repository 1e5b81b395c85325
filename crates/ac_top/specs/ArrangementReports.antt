-- What `aprove` reports of a pair: of each output, whether the search shows it equal in the pair of some arrangement of the chains, and if
-- not, how the search ends in each.
use Rattle.std.specs.Prelude.{◌≡◌, ◌⊎◌, ◌≤◌, ◌<◌, ℕ, ℤ, List, [], ◌∷◌, min, Bool, true, false, IsSome}
use Rattle.std.specs.List.{Contains}
use Rattle.ac_syntax.specs.Outputs.{IsValuation}
use Rattle.ac_syntax.specs.declared.tree.Pair.{Pair}
use Rattle.ac_assoc_law.specs.ArrangedPairs.{arranged_pair}
use Rattle.ac_assoc_law.specs.ChainSameness.{SameUnderChains}
use Rattle.ac_assoc.specs.ChosenOrders.{chosen, number_at, product}
use Rattle.ac_assoc.specs.ProgramChains.{chains_of_pair}
use Rattle.ac_flow.specs.Contexts.{ContextStops}
use Rattle.ac_flow.specs.Readers.{StopsAmong, readers}
use Rattle.ac_flow.specs.declared.types.ContextStop.TheVariants.{EmptyContext}
use Rattle.ac_flow.specs.declared.types.FlowStop.{FlowStop}
use Rattle.ac_match.specs.declared.orders.Refuted.{Refuted}
use Rattle.ac_poly.specs.declared.types.Model.{Model}
use Rattle.ac_report.specs.ReportTexts.{cause_words}
use Rattle.ac_report.specs.declared.types.Cause.{Cause}
use Rattle.ac_report.specs.declared.types.Cause.TheVariants.{Unmatched, OverflowQuestion, OverflowHull, SpentQuestion, SpentPieces, SpentPaths, SpentOrders}
use Rattle.ac_report.specs.declared.types.Verdict.TheVariants.{Unknown}
use Rattle.ac_walk.specs.MatchedOutputs.{IsMatched}
use Rattle.ac_walk.specs.TriedValuations.{IsTried}
use Rattle.ac_walk.specs.UnknownCauses.{IsAnswered, cause_of, left_model, right_model}
use Rattle.ac_walk.specs.Verdicts.{IsCause, IsDifferentAt}
use Rattle.ac_walk_state.specs.UnmatchedOutputs.{IsUnmatched}
use Rattle.ac_top.specs.ArrangementLines.{answer_lines, status_of}
use Rattle.ac_top.specs.ConsoleLines.{empty_context_line}
use Rattle.ac_top.specs.FlowReports.{default_budget}
use Rattle.ac_top.specs.Reports.{Report, report}
use Rattle.ac_top.specs.declared.arrangements.Answer.{Answer}
use Rattle.ac_top.specs.declared.arrangements.Answer.TheVariants as answer
use Rattle.ac_top.specs.declared.arrangements.Early.{Early}
use Rattle.ac_top.specs.declared.status.Status.TheVariants as status

-- how many arrangements of the chains there are
abbrev pub arrangements_of : List (List ℕ) → Pair → ℕ
arrangements_of names pair = product (chains_of_pair names pair)

-- how many are tried
abbrev pub tried_of : List (List ℕ) → Pair → ℕ
tried_of names pair = min (arrangements_of names pair) 1024

-- the pair of the arrangement with a number, with one output
abbrev pub arrangement : List (List ℕ) → Pair → (output number : ℕ) → Pair
arrangement names pair output number = record (arranged_pair names (number_at (chosen (chains_of_pair names pair) number)) pair) { outputs = output ∷ [] }

-- the output has an element whose terms do not agree, or partial orders are refuted until each order extends one: no order is without a mismatch
pub data IsApart (pair : Pair) (output : ℕ) : Type 0 where
  differs : (at element : List ℤ) → IsDifferentAt pair output at element → IsApart pair output
  unmatched : (refuted : List Refuted) → IsUnmatched pair output refuted → IsApart pair output

-- every cause but that each order is refuted
abbrev pub is_early : Cause → Bool
is_early (Unmatched refuted) = false
is_early (OverflowQuestion question) = true
is_early (OverflowHull members) = true
is_early (SpentQuestion question cost) = true
is_early (SpentPieces position kept) = true
is_early (SpentPaths paths) = true
is_early (SpentOrders refuted) = true

-- the search on the one output of a pair ends early, for a cause with these words
pub record EndsEarly (pair : Pair) (output : ℕ) (words : List ℕ) : Type 0 where
  pub cause : Cause
  pub early : is_early cause ≡ true
  pub said : words ≡ cause_words cause
  pub is : IsCause pair output cause
  pub ends : IsAnswered default_budget pair (Unknown cause ∷ [])

-- and the valuations that are tried before show no difference
pub record EndsAfterRuns (pair : Pair) (output : ℕ) (words : List ℕ) : Type 0 where
  pub early : EndsEarly pair output words
  pub tried : IsTried default_budget pair output early.cause

-- the search on the one output of a pair shows it apart, or ends early: it does not show it equal
abbrev pub IsUnknown : Pair → ℕ → Type 0
IsUnknown pair output = IsApart pair output ⊎ ((words : List ℕ) × EndsEarly pair output words)

-- the output is apart in each arrangement with a smaller number
abbrev pub IsApartBefore : List (List ℕ) → Pair → (output count : ℕ) → Type 0
IsApartBefore names pair output count = (number : ℕ) → number < count → IsApart (arrangement names pair output number) output

-- it is unknown in each of them
abbrev pub IsUnknownBefore : List (List ℕ) → Pair → (output count : ℕ) → Type 0
IsUnknownBefore names pair output count = (number : ℕ) → number < count → IsUnknown (arrangement names pair output number) output

-- at the budget a question of the flow of a program is too wide or too costly, or a read or an output has too many pieces
abbrev pub FlowIsStopped : Model → Type 0
FlowIsStopped m = (stop : FlowStop) × StopsAmong default_budget m (readers m) stop × IsSome (cause_of stop)

-- in some arrangement that is tried some order has no mismatch; the output is the same under chains, and some valuation meets the context
pub record IsShownEqual (names : List (List ℕ)) (pair : Pair) (output : ℕ) : Type 0 where
  pub number : ℕ
  pub tried : number < tried_of names pair
  pub matched : IsMatched (arrangement names pair output number) output
  pub same : SameUnderChains names pair output
  pub params : List ℤ
  pub valuation : IsValuation pair params

-- in this arrangement no run shows a difference and the search on the output ends early, and in those before it the output is apart; it is unknown in each that is tried, but
-- those behind are not looked at if the flow of the right program stops here, since then it does so in each
pub record IsFirstEnd (names : List (List ℕ)) (pair : Pair) (output : ℕ) (first : Early) : Type 0 where
  pub tried : first.number < tried_of names pair
  pub ends : EndsAfterRuns (arrangement names pair output first.number) output first.words.now
  pub apart : IsApartBefore names pair output first.number
  pub unknown : IsUnknownBefore names pair output (tried_of names pair) ⊎ FlowIsStopped (right_model (arrangement names pair output first.number))

-- equal: some arrangement shows it; unmatched: the output is apart in all arrangements; spent: there are more than 1,024, and it is apart in the
-- first 1,024; early: none that is tried shows it equal, and this is the first in which the search ends early
abbrev pub IsAnswer : List (List ℕ) → Pair → ℕ → Answer → Type 0
IsAnswer names pair output answer.Equal = IsShownEqual names pair output
IsAnswer names pair output answer.Unmatched = (arrangements_of names pair ≤ 1024) × IsApartBefore names pair output (arrangements_of names pair)
IsAnswer names pair output answer.Spent = (1024 < arrangements_of names pair) × IsApartBefore names pair output 1024
IsAnswer names pair output (answer.Early first) = IsFirstEnd names pair output first

-- one answer for each output, in order
abbrev pub AreAnswers : List (List ℕ) → Pair → List ℕ → List Answer → Type 0
AreAnswers names pair [] [] = Unit {0}
AreAnswers names pair [] (a ∷ rest) = ⊥
AreAnswers names pair (o ∷ os) [] = ⊥
AreAnswers names pair (o ∷ os) (a ∷ rest) = IsAnswer names pair o a × AreAnswers names pair os rest

-- no valuation meets the context, as its question shows
pub record IsWithoutValuation (pair : Pair) : Type 0 where
  pub stops : ContextStops default_budget (left_model pair) EmptyContext
  pub none : (params : List ℤ) → ¬ (IsValuation pair params)

-- what is reported: that no valuation meets the context; or the answers on the outputs
pub data ArrangedReports (names : List (List ℕ)) (pair : Pair) : Report → Type 0 where
  without_valuation : IsWithoutValuation pair → ArrangedReports names pair (report status.Refused empty_context_line)
  answered : (answers : List Answer) → AreAnswers names pair pair.outputs answers → ArrangedReports names pair (report (status_of answers) (answer_lines pair.left.arrays pair.outputs answers))

-- each output of the pair is the same under chains
abbrev pub AreSameUnderChains : List (List ℕ) → Pair → Type 0
AreSameUnderChains names pair = (output : ℕ) → Contains pair.outputs output → SameUnderChains names pair output
