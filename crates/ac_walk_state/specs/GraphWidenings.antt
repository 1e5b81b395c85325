-- The laws on the setting of a search.
use Rattle.std.specs.Prelude.{◌≡◌, ◌↔◌, ℕ, List, [], ◌∷◌, ℤ}
use Rattle.std.specs.List.{list_any}
use Rattle.ac_syntax.specs.declared.tree.Pair.{Pair}
use Rattle.ac_syntax.specs.declared.tree.Position.{Position}
use Rattle.ac_flow.specs.declared.types.Flow.{Flow}
use Rattle.ac_graph.specs.PairMoves.{IsEdge, AreReached, AreRecurrent, Reaches, dependences, start_of, starts_of}
use Rattle.ac_claims.specs.ProofEnds.{same_pair}
use Rattle.ac_graph.specs.GraphMeaning.{HaveFlows}
use Rattle.ac_graph.specs.declared.types.Graph.{Graph}
use Rattle.ac_hull.specs.SmallestIntegers.{AreFirst}
use Rattle.ac_hull.specs.Thresholds.{threshold_candidates, modulus_candidates}
use Rattle.ac_forms.specs.ListMembers.{IsAmong}
use Rattle.ac_widen_programs.specs.LawfulPairs.{AreRecurring}
use Rattle.ac_walk_state.specs.SearchSetting.{Widening, IsWideningOf}

-- the edges of both flows, and the recurrence pairs among those that moves along them reach
pub record IsGraphOf (pair : Pair) (left right : Flow) (graph : Graph) : Type 0 where
  pub left_are : (p q : Position) → IsAmong (p, q) graph.left_edges ↔ IsEdge left p q
  pub right_are : (p q : Position) → IsAmong (p, q) graph.right_edges ↔ IsEdge right p q
  pub reachable_are : AreReached (dependences pair graph.left_edges graph.right_edges) (starts_of pair.outputs) graph.reachable
  pub recurrent_are : AreRecurrent (dependences pair graph.left_edges graph.right_edges) graph.reachable graph.recurrent

-- the numbers of the template rows of a pair
pub record AreNumbersOf (pair : Pair) (thresholds moduli : List ℤ) : Type 0 where
  pub thresholds_are : AreFirst 64 (λ x. IsAmong x (threshold_candidates pair)) thresholds
  pub moduli_are : AreFirst 8 (λ m. IsAmong m (modulus_candidates pair)) moduli

-- those of a graph's recurrence pairs that moves reach from the output
abbrev pub AreRecurrentFrom : Pair → Graph → ℕ → List (Position × Position) → Type 0
AreRecurrentFrom pair graph output pairs = (p : Position × Position) → IsAmong p pairs ↔ (Reaches (dependences pair graph.left_edges graph.right_edges) (start_of output ∷ []) p × IsAmong p graph.recurrent)

-- these pairs, with these numbers
abbrev pub widening_of : List (Position × Position) → List ℤ → List ℤ → Widening
widening_of pairs thresholds moduli = record { recurrent = λ positions. list_any (same_pair positions) pairs; thresholds = thresholds; moduli = moduli }

-- an output has the widening by the graph, where the programs of its pair have flows
abbrev pub GraphsWiden : Type 0
GraphsWiden =
    (pair : Pair) (output : ℕ) (left right : Flow) (graph : Graph) (pairs : List (Position × Position)) (thresholds moduli : List ℤ) → IsAmong output pair.outputs → HaveFlows pair left right → IsGraphOf pair left right graph → AreRecurrentFrom pair graph output pairs
    → AreNumbersOf pair thresholds moduli → IsWideningOf pair output (widening_of pairs thresholds moduli)

-- both take the same pairs, and have the same numbers
pub record AreOne (w v : Widening) : Type 0 where
  pub recurrent : (positions : Position × Position) → w.recurrent positions ≡ v.recurrent positions
  pub thresholds : w.thresholds ≡ v.thresholds
  pub moduli : w.moduli ≡ v.moduli

-- an output has one widening
abbrev pub WideningsAreOne : Type 0
WideningsAreOne = (pair : Pair) (output : ℕ) (w v : Widening) → IsWideningOf pair output w → IsWideningOf pair output v → AreOne w v

-- where the programs have flows, it takes no pairs but those that recur along them
abbrev pub WideningsRecur : Type 0
WideningsRecur = (pair : Pair) (output : ℕ) (left right : Flow) (w : Widening) → HaveFlows pair left right → IsWideningOf pair output w → AreRecurring pair w.recurrent
