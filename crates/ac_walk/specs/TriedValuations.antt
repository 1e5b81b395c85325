-- At which valuations both programs are run before an output is left unknown, and what none of these runs shows.
use Rattle.std.specs.Prelude.{◌≡◌, ◌⊎◌, ◌≤◌, ℕ, ℤ, pos, List, [], ◌∷◌, ◌++◌, map, take, filter, replicate, length, Bool, true, false, Some, None, Ok, slice_get}
use Rattle.std.specs.Cmp.Lexicographic.{pointwise}
use Rattle.std.specs.List.{AllByRecursion, flat_map, list_all}
use Rattle.std.specs.Ordering.{int_eq}
use Rattle.std.specs.Set.{distinct_count, is_member}
use Rattle.ac_forms.specs.ListMembers.{IsAmong}
use Rattle.ac_syntax.specs.Outputs.{IsValuation}
use Rattle.ac_syntax.specs.declared.tree.Pair.{Pair}
use Rattle.ac_instance.specs.ComparisonAnswers.{compared, due}
use Rattle.ac_instance.specs.Events.{fits_64}
use Rattle.ac_instance.specs.Least.{IsLeast}
use Rattle.ac_match.specs.declared.orders.Refuted.{Refuted}
use Rattle.ac_widen.specs.declared.derivation.Entry.{Entry}
use Rattle.ac_report.specs.declared.types.Cause.{Cause}
use Rattle.ac_report.specs.declared.types.Cause.TheVariants.{Unmatched, OverflowQuestion, OverflowHull, SpentQuestion, SpentPieces, SpentPaths, SpentOrders}
use Rattle.ac_report.specs.declared.types.Verdict.{Verdict}
use Rattle.ac_report.specs.declared.types.Verdict.TheVariants.{Equal, Different, Unknown}
use Rattle.ac_walk.specs.UnknownCauses.{IsContextPoint, left_model}
use Rattle.ac_walk.specs.Verdicts.{IsDifferentAt, OnEach}

-- ---- what a run shows

-- at a valuation of the context: if both runs and the comparison of all outputs end within 1,000,000 events, the terms of each element of the output agree
abbrev pub ShowsNoDifference : Pair → ℕ → List ℤ → Type 0
ShowsNoDifference pair output at = IsValuation pair at → (events : ℕ) → due pair at 1000000 ≡ Ok events → IsLeast (compared pair at output) None

-- ---- samples

-- each number fits 64 bits
abbrev pub in_64_bits : List ℤ → Bool
in_64_bits = list_all fits_64

-- the same number for each parameter: 1, 2, 17 or 33
abbrev pub uniform : Pair → List (List ℤ)
uniform pair = map (λ size. replicate (length pair.left.params) size) (pos 1 ∷ pos 2 ∷ pos 17 ∷ pos 33 ∷ [])

-- one of these, or the valuation that the question of the context gives at the budget, if it is in 64 bits
abbrev pub IsSample : ℕ → Pair → List ℤ → Type 0
IsSample budget pair at = (IsContextPoint budget (left_model pair) at × (in_64_bits at ≡ true)) ⊎ IsAmong at (uniform pair)

-- ---- derivations

-- the valuations of entries, those in 64 bits
abbrev pub valuations_in : ℕ → List Entry → List (List ℤ)
valuations_in params es = filter in_64_bits (map (λ e. take params e.point) es)

-- the partial orders that a cause lists, each with its derivation
abbrev pub refuted_of : Cause → List Refuted
refuted_of (Unmatched refuted) = refuted
refuted_of (OverflowQuestion question) = []
refuted_of (OverflowHull members) = []
refuted_of (SpentQuestion question cost) = []
refuted_of (SpentPieces position kept) = []
refuted_of (SpentPaths paths) = []
refuted_of (SpentOrders refuted) = refuted

-- the valuations of these derivations, in order
abbrev pub valuations_of : ℕ → Cause → List (List ℤ)
valuations_of params cause = flat_map (λ r. valuations_in params r.why.entries) (refuted_of cause)

-- it holds of the first of a list: of all, or of so many that this many different ones are among them
pub record HoldsOfFirst (P : List ℤ → Type 0) (many : ℕ) (list : List (List ℤ)) : Type 0 where
  pub count : ℕ
  pub holds : AllByRecursion P (take count list)
  pub enough : (length list ≤ count) ⊎ (many ≤ distinct_count (pointwise int_eq) (take count list))

-- ---- outputs that are left unknown

-- no difference of an output is shown at a sample, nor at the first 16 different valuations of the derivations that the cause lists
pub record IsTried (budget : ℕ) (pair : Pair) (output : ℕ) (cause : Cause) : Type 0 where
  pub samples : (at : List ℤ) → IsSample budget pair at → ShowsNoDifference pair output at
  pub listed : HoldsOfFirst (ShowsNoDifference pair output) 16 (valuations_of (length pair.left.params) cause)

-- so it is where the verdict is unknown
abbrev pub IsTriedIf : ℕ → Pair → ℕ → Verdict → Type 0
IsTriedIf budget pair output Equal = Unit {0}
IsTriedIf budget pair output (Different at element) = Unit {0}
IsTriedIf budget pair output (Unknown cause) = IsTried budget pair output cause

-- of each output with its verdict
abbrev pub AreTried : ℕ → Pair → List ℕ → List Verdict → Type 0
AreTried budget pair = OnEach (IsTriedIf budget pair)

-- ---- while they are tried

-- the samples that come of a point
abbrev pub samples_of : Pair → List ℤ → List (List ℤ)
samples_of pair point = filter in_64_bits (take (length pair.left.params) point ∷ []) ++ uniform pair

-- each sample is among them
abbrev pub AreSamples : ℕ → Pair → List (List ℤ) → Type 0
AreSamples budget pair samples = (at : List ℤ) → IsSample budget pair at → IsAmong at samples

-- a run shows no difference of the output with a number
abbrev pub NumberShowsNone : Pair → ℕ → List ℤ → Type 0
NumberShowsNone pair number at = (output : ℕ) → slice_get pair.outputs number ≡ Some output → ShowsNoDifference pair output at

-- a valuation was among those that were tried; or it is one more, and shows no difference
pub data IsTriedToo (pair : Pair) (number : ℕ) (before : List (List ℤ)) (at : List ℤ) (after : List (List ℤ)) : Type 0 where
  again : is_member (pointwise int_eq) before at ≡ true → after ≡ before → IsTriedToo pair number before at after
  anew : is_member (pointwise int_eq) before at ≡ false → NumberShowsNone pair number at → after ≡ before ++ at ∷ [] → IsTriedToo pair number before at after

-- neither the samples nor a cause's derivations show a difference of the output with a number
pub record ShowNone (pair : Pair) (samples : List (List ℤ)) (number : ℕ) (cause : Cause) : Type 0 where
  pub samples_show : AllByRecursion (NumberShowsNone pair number) samples
  pub listed_show : HoldsOfFirst (NumberShowsNone pair number) 16 (valuations_of (length pair.left.params) cause)

-- an output that is left unknown for a cause, or that differs
abbrev pub IsLeft : Pair → List (List ℤ) → ℕ → Cause → Verdict → Type 0
IsLeft pair samples number cause Equal = ⊥
IsLeft pair samples number cause (Different at element) = (output : ℕ) → slice_get pair.outputs number ≡ Some output → IsDifferentAt pair output at element
IsLeft pair samples number cause (Unknown why) = (why ≡ cause) × ShowNone pair samples number cause
