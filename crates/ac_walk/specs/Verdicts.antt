-- What the search says of a pair, output by output, and the proof that it gives.
use Rattle.std.specs.Prelude.{◌≡◌, ℕ, ℤ, List, [], ◌∷◌, ◌++◌, map, Some, true}
use Rattle.ac_syntax.specs.Outputs.{IsValuation, SameOutput}
use Rattle.ac_syntax.specs.declared.tree.Pair.{Pair}
use Rattle.ac_instance.specs.ComparisonAnswers.{compared}
use Rattle.ac_instance.specs.Least.{IsLeast}
use Rattle.ac_poly.specs.Model.{model_of}
use Rattle.ac_claims_paths.specs.PathSteps.{Pairing}
use Rattle.ac_claims.specs.ProofFaults.{IsValidProof}
use Rattle.ac_claims.specs.Soundness.{pairing_of}
use Rattle.ac_claims.specs.declared.types.Proof.{Proof}
use Rattle.ac_match.specs.declared.orders.Next.TheVariants.{Spent}
use Rattle.ac_walk.specs.MatchedOutputs.{IsMatched}
use Rattle.ac_walk_state.specs.UnmatchedOutputs.{AreRefutedUpTo, IsUnmatched}
use Rattle.ac_walk_state.specs.SearchSetting.{Widening, IsWideningOf, searched}
use Rattle.ac_walk_state.specs.RecurrencePairStops.{AreTooLarge}
use Rattle.ac_syntax.specs.declared.tree.Order.{Order}
use Rattle.ac_syntax.specs.declared.tree.Position.{Position}
use Rattle.ac_flow.specs.declared.types.Flow.{Flow}
use Rattle.ac_graph.specs.GraphMeaning.{HaveFlows}
use Rattle.ac_walk.specs.FoundMembers.{AreFoundBeside}
use Rattle.ac_report.specs.declared.types.Cause.{Cause}
use Rattle.ac_report.specs.declared.types.Cause.TheVariants.{Unmatched, OverflowQuestion, OverflowHull, SpentQuestion, SpentPieces, SpentPaths, SpentOrders}
use Rattle.ac_report.specs.declared.types.Verdict.{Verdict}
use Rattle.ac_report.specs.declared.types.Verdict.TheVariants.{Equal, Different, Unknown}
use Rattle.ac_walk.specs.declared.verdict_types.ProveStop.{ProveStop}
use Rattle.ac_walk.specs.declared.verdict_types.ProveStop.TheVariants.{EmptyContext, Memory}

-- at a valuation of the context this is the least element whose terms do not agree
abbrev pub IsDifferentAt : Pair → ℕ → List ℤ → List ℤ → Type 0
IsDifferentAt pair output at element = IsValuation pair at × IsLeast (compared pair at output) (Some element)

-- in the setting of the search on the output, under some order: the points are obligations at one recurrence pair, and a number is too large as the
-- last of them is taken beside the others; these are found members, and so is the last one, if it can be combined from them
pub record AreTooLargePoints (pair : Pair) (output : ℕ) (points : List (List ℤ)) : Type 0 where
  pub widening : Widening
  pub is_widening : IsWideningOf pair output widening
  pub order : Position × Position → Order
  pub left_flow : Flow
  pub right_flow : Flow
  pub flows : HaveFlows pair left_flow right_flow
  pub positions : Position × Position
  pub recurs : widening.recurrent positions ≡ true
  pub large : AreTooLarge (searched pair output widening) order widening.thresholds widening.moduli positions points
  pub found : AreFoundBeside pair output widening order left_flow right_flow positions large.members large.point

-- unmatched: the partial orders are refuted in turn until each order of the output's sites extends one; spent orders: until there are too many;
-- overflow of a hull: a number is too large at its points
abbrev pub IsCause : Pair → ℕ → Cause → Type 0
IsCause pair output (Unmatched refuted) = IsUnmatched pair output refuted
IsCause pair output (OverflowQuestion question) = Unit {0}
IsCause pair output (OverflowHull points) = AreTooLargePoints pair output points
IsCause pair output (SpentQuestion question cost) = Unit {0}
IsCause pair output (SpentPieces position kept) = Unit {0}
IsCause pair output (SpentPaths paths) = Unit {0}
IsCause pair output (SpentOrders refuted) = AreRefutedUpTo pair output refuted Spent

-- a fact for each output with its verdict, in order
abbrev pub OnEach : (ℕ → Verdict → Type 0) → List ℕ → List Verdict → Type 0
OnEach P [] [] = Unit {0}
OnEach P [] (v ∷ vs) = ⊥
OnEach P (o ∷ os) [] = ⊥
OnEach P (o ∷ os) (v ∷ vs) = P o v × OnEach P os vs

-- equal: the output is the same; different: at this valuation this is its least element whose terms do not agree; unknown: its
-- cause is as it says
abbrev pub IsVerdict : Pair → ℕ → Verdict → Type 0
IsVerdict pair output Equal = SameOutput pair output
IsVerdict pair output (Different at element) = IsDifferentAt pair output at element
IsVerdict pair output (Unknown cause) = IsCause pair output cause

-- one verdict for each output, in order
abbrev pub AreVerdicts : Pair → List ℕ → List Verdict → Type 0
AreVerdicts pair = OnEach (IsVerdict pair)

-- equal: in the setting of the search on the output some order of the sites has no mismatch
abbrev pub IsMatchedIf : Pair → ℕ → Verdict → Type 0
IsMatchedIf pair output Equal = IsMatched pair output
IsMatchedIf pair output (Different at element) = Unit {0}
IsMatchedIf pair output (Unknown cause) = Unit {0}

-- of each output with its verdict
abbrev pub AreMatched : Pair → List ℕ → List Verdict → Type 0
AreMatched pair = OnEach (IsMatchedIf pair)

-- an output, if its verdict is Equal
abbrev pub if_equal : ℕ → Verdict → List ℕ
if_equal output Equal = output ∷ []
if_equal output (Different at element) = []
if_equal output (Unknown cause) = []

-- the outputs whose verdict is Equal
abbrev pub equal_outputs : List ℕ → List Verdict → List ℕ
equal_outputs [] vs = []
equal_outputs (o ∷ os) [] = []
equal_outputs (o ∷ os) (v ∷ vs) = if_equal o v ++ equal_outputs os vs

-- the outputs that a proof names
abbrev pub named : Proof → List ℕ
named proof = map (λ o. o.0) proof.outputs

-- the programs of the pair under its context, as the check of a proof takes them
abbrev pub pairing : Pair → Pairing
pairing pair = pairing_of pair (model_of pair.left pair.context) (model_of pair.right pair.context)

-- the check of proofs accepts it
abbrev pub IsAccepted : Pair → Proof → Type 0
IsAccepted pair proof = IsValidProof (pairing pair) pair.outputs proof

-- no valuation meets the context
abbrev pub IsStop : Pair → ProveStop → Type 0
IsStop pair EmptyContext = (params : List ℤ) → ¬ (IsValuation pair params)
IsStop pair (Memory want) = Unit {0}
