-- What is kept while pairs are found from pairs.
use Rattle.std.specs.Prelude.{ℕ, suc, ◌≡◌, ◌&&◌, ◌↔◌, ◌⊎◌, ◌≤◌, List, [], ◌++◌, length, Some, slice_get, Bool, false, nat_eq}
use Rattle.ac_syntax.specs.declared.tree.Position.{Position}
use Rattle.ac_flow.specs.declared.types.Case.{Case}
use Rattle.ac_forms.specs.ListMembers.{IsAmong}
use Rattle.ac_claims_paths.specs.Pairs.{ArgumentsMeet}
use Rattle.ac_claims_paths.specs.ModelPositions.{CallAt}
use Rattle.ac_syntax.specs.declared.tree.Order.{Order}
use Rattle.ac_syntax.specs.declared.tree.Symbol.{Symbol}
use Rattle.ac_flow.specs.declared.types.ReadFlow.{ReadFlow}
use Rattle.ac_graph.specs.PairMoves.{Dependences, Moves, Reaches, AreDistinct, target}
pub use Rattle.ac_graph.specs.PairMoves.{ArePlaces}

-- the pairs of the second list are those of the first, and those that meet a condition
abbrev pub IsMore : (Position × Position → Type 0) → List (Position × Position) → List (Position × Position) → Type 0
IsMore P old new = (q : Position × Position) → IsAmong q new ↔ (IsAmong q old ⊎ P q)

-- an edge of a case
abbrev pub IsEdgeOf : Position → List Case → Position × Position → Type 0
IsEdgeOf p cases q = (case : Case) × IsAmong case cases × (¬ (case.pieces ≡ [])) × (q ≡ (p, target p case.source))

abbrev pub IsEdgeOfOne : Position → Case → Position × Position → Type 0
IsEdgeOfOne p case q = (¬ (case.pieces ≡ [])) × (q ≡ (p, target p case.source))

-- an edge of some reads and outputs
abbrev pub IsEdgeAmong : List ReadFlow → Position × Position → Type 0
IsEdgeAmong reads q = (read : ReadFlow) × IsAmong read reads × IsEdgeOf read.position read.cases q

-- along an edge on the left, or on the right
abbrev pub IsLeftOf : List (Position × Position) → Position × Position → Position × Position → Type 0
IsLeftOf edges p q = IsAmong (p.0, q.0) edges × (q.1 ≡ p.1)

abbrev pub IsRightOf : List (Position × Position) → Position × Position → Position × Position → Type 0
IsRightOf edges p q = IsAmong (p.1, q.1) edges × (q.0 ≡ p.0)

-- the arguments of two calls with these numbers
abbrev pub IsArgumentOf : CallAt → ℕ → CallAt → ℕ → Position × Position → Type 0
IsArgumentOf left i right j q = (slice_get left.args i ≡ Some q.0) × (slice_get right.args j ≡ Some q.1)

-- those with one number, below another
abbrev pub IsKeptOf : CallAt → CallAt → ℕ → Position × Position → Type 0
IsKeptOf left right below q = (k : ℕ) × (suc k ≤ below) × IsArgumentOf left k right k q

-- two arguments that meet in some order
abbrev pub IsMetOf : (Symbol → Bool) → CallAt → CallAt → Position × Position → Type 0
IsMetOf swaps left right q = (order : Order) × (i : ℕ) × (j : ℕ) × ArgumentsMeet swaps order left.symbol i j × IsArgumentOf left i right j q

-- the same, of two calls of one symbol
abbrev pub IsArgumentMoveOf : (Symbol → Bool) → CallAt → CallAt → Position × Position → Type 0
IsArgumentMoveOf swaps left right q = (left.symbol ≡ right.symbol) × IsMetOf swaps left right q

-- pairs behind which others are found, each once
pub record Extends (old added new : List (Position × Position)) : Type 0 where
  pub more : List (Position × Position)
  pub is : new ≡ old ++ more
  pub has : (q : Position × Position) → IsAmong q new → IsAmong q old ⊎ IsAmong q added
  pub keeps : (q : Position × Position) → IsAmong q added → IsAmong q new
  pub distinct : AreDistinct old → AreDistinct new

-- the pairs that are found from some, where the first of them are followed
pub record IsReaching (d : Dependences) (starts pairs : List (Position × Position)) (next : List (List ℕ)) (at : ℕ) : Type 0 where
  pub more : List (Position × Position)
  pub is : pairs ≡ starts ++ more
  pub distinct : AreDistinct pairs
  pub sound : (p : Position × Position) → IsAmong p pairs → Reaches d starts p
  pub each : length next ≡ at
  pub within : at ≤ length pairs
  pub follows : (i : ℕ) (nodes : List ℕ) (p : Position × Position) → slice_get next i ≡ Some nodes → slice_get pairs i ≡ Some p → ArePlaces (Moves d p) pairs nodes

-- the pairs that moves reach from some, and the places of the moves of each
pub record AreAllReached (d : Dependences) (starts pairs : List (Position × Position)) (next : List (List ℕ)) : Type 0 where
  pub more : List (Position × Position)
  pub is : pairs ≡ starts ++ more
  pub distinct : AreDistinct pairs
  pub reached : (p : Position × Position) → IsAmong p pairs ↔ Reaches d starts p
  pub each : length next ≡ length pairs
  pub follows : (i : ℕ) (nodes : List ℕ) (p : Position × Position) → slice_get next i ≡ Some nodes → slice_get pairs i ≡ Some p → ArePlaces (Moves d p) pairs nodes
