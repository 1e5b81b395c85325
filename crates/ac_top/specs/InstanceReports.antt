-- What `instance` reports of a pair: the runs of both programs at one valuation.
use Rattle.std.specs.Prelude.{◌≡◌, ℕ, ℤ, List, [], ◌∷◌, Bool, true, false, if◌then◌else◌, Option, Some, None, Ok, Err, length}
use Rattle.std.specs.List.{list_any, Contains}
use Rattle.ac_syntax.specs.Outputs.{IsValuation, IsElement, SameAt, SameTermsAt}
use Rattle.ac_syntax.specs.ReadyPrograms.{ReadyProgram, FitParts}
use Rattle.ac_syntax.specs.declared.tree.Place.{Place}
use Rattle.ac_syntax.specs.declared.tree.Pair.{Pair}
use Rattle.ac_instance.specs.ComparisonAnswers.{due, AreOutcomes, compared}
use Rattle.ac_instance.specs.declared.halt.Halt.{Halt}
use Rattle.ac_instance.specs.declared.halt.Halt.TheVariants.{OutsideContext, TooLarge, Range, Wide, Memory}
use Rattle.ac_instance.specs.declared.halt.Outcome.{Outcome}
use Rattle.ac_instance.specs.declared.halt.Outcome.TheVariants.{Equal, Different}
use Rattle.ac_instance.specs.declared.halt.Side.{Side}
use Rattle.ac_instance.specs.declared.halt.Side.TheVariants.{Left, Right}
use Rattle.ac_cli_args.specs.Valuations.{IsValuationWord}
use Rattle.ac_top.specs.Reports.{Report, report}
use Rattle.ac_top.specs.ConsoleLines.{valuation_line, outside_context_line, too_large_line, range_line, outcome_lines}
use Rattle.ac_top.specs.declared.status.Status.{Status}
use Rattle.ac_top.specs.declared.status.Status.TheVariants as status

-- the word after `--at`, or the word that gives nothing
abbrev pub valuation_word : Option (List ℕ) → List ℕ
valuation_word None = []
valuation_word (Some word) = word

-- the word gives each parameter of the left program its value
abbrev pub IsGiven : Pair → Option (List ℕ) → List ℤ → Type 0
IsGiven pair at params = IsValuationWord pair.left.params (valuation_word at) params

abbrev pub is_different : Outcome → Bool
is_different Equal = false
is_different (Different e) = true

-- different where one outcome is, else done
abbrev pub status_of : List Outcome → Status
status_of outcomes = if list_any is_different outcomes then status.Different else status.Done

-- of the two, the one of this side
abbrev pub of_side : Side → List ℕ → List ℕ → List ℕ
of_side Left left right = left
of_side Right left right = right

-- each output whose outcome is equal is the same at the valuation
abbrev pub EqualIsSame : Pair → List ℤ → List ℕ → List Outcome → Type 0
EqualIsSame pair params [] rs = Unit {0}
EqualIsSame pair params (o ∷ os) [] = Unit {0}
EqualIsSame pair params (o ∷ os) (Equal ∷ rs) = ((e : List ℤ) → IsElement pair params o e → SameAt pair params o e) × EqualIsSame pair params os rs
EqualIsSame pair params (o ∷ os) (Different d ∷ rs) = EqualIsSame pair params os rs

-- what is reported of the runs at a valuation, by what is due there
pub data RunReports (a b first second : List ℕ) (pair : Pair) (params : List ℤ) (limit : ℕ) : Report → Type 0 where
  outside : due pair params limit ≡ Err OutsideContext → RunReports a b first second pair params limit (report status.Refused outside_context_line)
  too_large : due pair params limit ≡ Err (TooLarge limit) → RunReports a b first second pair params limit (report status.Halted (too_large_line limit))
  range : (side : Side) (place : Place) (value : ℤ) → due pair params limit ≡ Err (Range side place value)
      → RunReports a b first second pair params limit (report status.Halted (range_line (of_side side a b) (of_side side first second) place.at value))
  ran : (events : ℕ) (outcomes : List Outcome) → due pair params limit ≡ Ok events → AreOutcomes (compared pair params) pair.outputs outcomes → EqualIsSame pair params pair.outputs outcomes
      → RunReports a b first second pair params limit (report (status_of outcomes) (outcome_lines pair.left.arrays pair.outputs outcomes))

-- of a pair: that the word is no valuation, or what is reported at the valuation that it gives
pub data InstanceReports (a b first second : List ℕ) (pair : Pair) (at : Option (List ℕ)) (limit : ℕ) : Report → Type 0 where
  not_a_valuation : ((params : List ℤ) → ¬ (IsGiven pair at params)) → InstanceReports a b first second pair at limit (report status.Refused valuation_line)
  at_valuation : (params : List ℤ) (r : Report) → IsGiven pair at params → RunReports a b first second pair params limit r → InstanceReports a b first second pair at limit r

-- at the valuation that the word gives, which the context admits, the terms of every element agree, so each output is the same there
pub record IsTheSameAt (pair : Pair) (at : Option (List ℕ)) : Type 0 where
  pub params : List ℤ
  pub given : IsGiven pair at params
  pub valuation : IsValuation pair params
  pub terms : (output : ℕ) → Contains pair.outputs output → (e : List ℤ) → IsElement pair params output e → SameTermsAt pair params output e
  pub same : (output : ℕ) → Contains pair.outputs output → (e : List ℤ) → IsElement pair params output e → SameAt pair params output e

-- both programs are as the language has them, over equally many parameters, and the context is over these without quotients
pub record IsReadyPair (pair : Pair) : Type 0 where
  pub left : ReadyProgram pair.left
  pub right : ReadyProgram pair.right
  pub params : length pair.left.params ≡ length pair.right.params
  pub context : FitParts (length pair.left.params) 0 pair.context.parts

-- what a halt is reported as; the last two are not reported
abbrev pub HaltReports : List ℕ → List ℕ → List ℕ → List ℕ → Halt → Report → Type 0
HaltReports a b first second OutsideContext r = r ≡ report status.Refused outside_context_line
HaltReports a b first second (TooLarge n) r = r ≡ report status.Halted (too_large_line n)
HaltReports a b first second (Range side place value) r = r ≡ report status.Halted (range_line (of_side side a b) (of_side side first second) place.at value)
HaltReports a b first second Wide r = ⊥
HaltReports a b first second (Memory e) r = ⊥
