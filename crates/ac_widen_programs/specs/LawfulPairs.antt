-- The laws on the setting of a pair.
use Rattle.std.specs.Prelude.{ℕ, ◌≡◌, ◌↔◌, ◌⊎◌, List, ℤ, true, Bool}
use Rattle.ac_forms.specs.declared.row.Row.{Row}
use Rattle.ac_syntax.specs.Algebra.{Cell, integers}
use Rattle.ac_syntax.specs.Outputs.{input_at}
use Rattle.ac_syntax.specs.Sameness.{AgreeOn}
use Rattle.ac_syntax.specs.Spot.{value_at}
use Rattle.ac_syntax.specs.Trace.{trace_of}
use Rattle.ac_syntax.specs.declared.tree.Pair.{Pair}
use Rattle.ac_syntax.specs.declared.tree.Position.{Position}
use Rattle.ac_syntax.specs.declared.tree.Symbol.{Symbol}
use Rattle.ac_claims_paths.specs.Pairs.{AreNumbers, AreOneInput}
use Rattle.ac_flow.specs.declared.types.Flow.{Flow}
use Rattle.ac_graph.specs.PairMoves.{IsRecurrent, IsSite, dependences, pairing_of}
use Rattle.ac_graph.specs.GraphMeaning.{HaveEdges, IsCompared, comparison, LeftPlaced, RightPlaced}
use Rattle.ac_widen.specs.Setting.{IsLawful}
use Rattle.ac_widen.specs.WideningLaws.{DecidesExactly}
use Rattle.ac_widen_programs.specs.PairSetting.{setting, is_site_pair}

-- the flows of both programs with their edges; each pair that is taken for a recurrence pair recurs along these
pub record AreRecurring (pair : Pair) (recurrent : Position × Position → Bool) : Type 0 where
  pub left : Flow
  pub right : Flow
  pub left_edges : List (Position × Position)
  pub right_edges : List (Position × Position)
  pub edges : HaveEdges pair left right left_edges right_edges
  pub recur : (positions : Position × Position) → recurrent positions ≡ true → IsRecurrent (dependences pair left_edges right_edges) positions

abbrev pub PairsAreASetting : Type 0
PairsAreASetting =
    (pair : Pair) (outputs : List ℕ) (recurrent : Position × Position → Bool) (template : Position × Position → List Row) → AreRecurring pair recurrent → IsLawful (setting pair outputs recurrent template)

abbrev pub SearchDecidesPairs : Type 0
SearchDecidesPairs =
    (pair : Pair) (outputs : List ℕ) (recurrent : Position × Position → Bool) (template : Position × Position → List Row) → AreRecurring pair recurrent → DecidesExactly (setting pair outputs recurrent template)

abbrev pub SitesAreDeclared : Type 0
SitesAreDeclared = (pair : Pair) (positions : Position × Position) → (is_site_pair pair positions ≡ true) ↔ IsSite (pairing_of pair) positions

-- under every meaning of the functions, and for all initial contents that are equal on the inputs
abbrev pub MatchesAgree : Type 0
MatchesAgree =
    (pair : Pair) (params : List ℤ) (c : IsCompared pair params) (a : LeftPlaced pair params) (b : RightPlaced pair params) → AreNumbers (comparison pair params c) a b ⊎ AreOneInput (comparison pair params c) a b
    → (table : Symbol → List ℤ → ℤ) (left right : Cell → ℤ) → AgreeOn (input_at pair.left.arrays) left right
    → value_at (integers table) (trace_of pair.left.body params) left a.spot ≡ value_at (integers table) (trace_of pair.right.body params) right b.spot
