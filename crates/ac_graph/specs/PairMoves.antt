-- Edges of programs, moves of pairs of positions, and which pairs recur.
use Rattle.std.specs.Prelude.{ℕ, ◌≡◌, ◌↔◌, ◌⊎◌, ◌<◌, List, [], length, map, Option, Some, None, slice_get, true}
use Rattle.ac_syntax.specs.Outputs.{swaps_of}
use Rattle.ac_syntax.specs.declared.tree.Order.{Order}
use Rattle.ac_syntax.specs.declared.tree.Pair.{Pair}
use Rattle.ac_syntax.specs.declared.tree.Position.{Position}
use Rattle.ac_syntax.specs.declared.tree.Position.TheVariants.{Output, Node, InitialOutput, InitialNode}
use Rattle.ac_syntax.specs.declared.tree.Site.{Site}
use Rattle.ac_poly.specs.Model.{model_of}
use Rattle.ac_poly.specs.declared.types.Model.{Model}
use Rattle.ac_claims_paths.specs.PathSteps.{Pairing}
use Rattle.ac_forms.specs.ListMembers.{IsAmong}
use Rattle.ac_claims_paths.specs.Pairs.{ArgumentsMeet}
use Rattle.ac_claims_paths.specs.ModelPositions.{CallAt, cell_read, call_at, initial_of}
use Rattle.ac_claims_paths.specs.declared.places.CellForms.{CellForms}
use Rattle.ac_flow.specs.declared.types.Case.{Case}
use Rattle.ac_flow.specs.declared.types.Flow.{Flow}
use Rattle.ac_flow.specs.declared.types.ReadFlow.{ReadFlow}
use Rattle.ac_graph.specs.Ways.{Leads}

-- the programs of a pair as integer points, and the symbols that may be swapped
abbrev pub pairing_of : Pair → Pairing
pairing_of pair = record {
  params = length pair.left.params;
  left = model_of pair.left pair.context;
  right = model_of pair.right pair.context;
  swaps = swaps_of pair.commutative;
}

-- a read or an output stands at the position
abbrev pub IsReader : Model → Position → Type 0
IsReader m p = (cell : CellForms) × (cell_read m p ≡ Some cell)

-- where a case leads: to the root of its source, or to the initial position
abbrev pub target : Position → Option ℕ → Position
target p (Some s) = Node s 0
target p None = initial_of p

-- an edge: some case of a read or an output is left, and leads there
pub record IsEdge (f : Flow) (from to : Position) : Type 0 where
  pub read : ReadFlow
  pub among : IsAmong read f.reads
  pub case : Case
  pub case_among : IsAmong case read.cases
  pub left : ¬ (case.pieces ≡ [])
  pub from_is : from ≡ read.position
  pub to_is : to ≡ target read.position case.source

-- both programs, with the edges of each
pub record Dependences : Type 0 where
  pub programs : Pairing
  pub left : List (Position × Position)
  pub right : List (Position × Position)

abbrev pub dependences : Pair → List (Position × Position) → List (Position × Position) → Dependences
dependences pair left right = record { programs = pairing_of pair; left = left; right = right }

-- a read or an output on the left moves along its edges
pub record LeftMove (d : Dependences) (p q : Position × Position) : Type 0 where
  pub reader : IsReader d.programs.left p.0
  pub edge : IsAmong (p.0, q.0) d.left
  pub stays : q.1 ≡ p.1

-- else one on the right
pub record RightMove (d : Dependences) (p q : Position × Position) : Type 0 where
  pub no_reader : ¬ (IsReader d.programs.left p.0)
  pub reader : IsReader d.programs.right p.1
  pub edge : IsAmong (p.1, q.1) d.right
  pub stays : q.0 ≡ p.0

-- two calls of one symbol move to two arguments that meet in some order
pub record ArgumentMove (d : Dependences) (p q : Position × Position) : Type 0 where
  pub left : CallAt
  pub right : CallAt
  pub left_is : call_at d.programs.left p.0 ≡ Some left
  pub right_is : call_at d.programs.right p.1 ≡ Some right
  pub one_symbol : left.symbol ≡ right.symbol
  pub order : Order
  pub left_number : ℕ
  pub right_number : ℕ
  pub meet : ArgumentsMeet d.programs.swaps order left.symbol left_number right_number
  pub left_argument : slice_get left.args left_number ≡ Some q.0
  pub right_argument : slice_get right.args right_number ≡ Some q.1

-- the moves of a pair
abbrev pub Moves : Dependences → Position × Position → Position × Position → Type 0
Moves d p q = LeftMove d p q ⊎ (RightMove d p q ⊎ ArgumentMove d p q)

-- what moves reach from some pairs
pub data Reaches (d : Dependences) (starts : List (Position × Position)) : Position × Position → Type 0 where
  start : (p : Position × Position) → IsAmong p starts → Reaches d starts p
  move : (p q : Position × Position) → Reaches d starts p → Moves d p q → Reaches d starts q

-- these are the pairs that moves reach from some pairs
abbrev pub AreReached : Dependences → List (Position × Position) → List (Position × Position) → Type 0
AreReached d starts pairs = (p : Position × Position) → IsAmong p pairs ↔ Reaches d starts p

-- no pair stands there twice
abbrev pub AreDistinct : List (Position × Position) → Type 0
AreDistinct pairs = (i j : ℕ) (p : Position × Position) → slice_get pairs i ≡ Some p → slice_get pairs j ≡ Some p → i ≡ j

-- the places of the pairs that meet a condition
pub record ArePlaces (P : Position × Position → Type 0) (pairs : List (Position × Position)) (places : List ℕ) : Type 0 where
  pub sound : (j : ℕ) → IsAmong j places → (q : Position × Position) × P q × (slice_get pairs j ≡ Some q)
  pub whole : (q : Position × Position) → P q → (j : ℕ) × IsAmong j places × (slice_get pairs j ≡ Some q)

-- for each of the pairs the places among them of those to which it moves
pub record AreTargets (d : Dependences) (pairs : List (Position × Position)) (next : List (List ℕ)) : Type 0 where
  pub each : length next ≡ length pairs
  pub follows : (i : ℕ) (nodes : List ℕ) (p : Position × Position) → slice_get next i ≡ Some nodes → slice_get pairs i ≡ Some p → ArePlaces (Moves d p) pairs nodes

-- an output of both programs against itself
abbrev pub start_of : ℕ → Position × Position
start_of output = (Output output, Output output)

abbrev pub starts_of : List ℕ → List (Position × Position)
starts_of outputs = map start_of outputs

-- a read or an output stands on either side
abbrev pub HasReader : Dependences → Position × Position → Type 0
HasReader d p = IsReader d.programs.left p.0 ⊎ IsReader d.programs.right p.1

-- a move between two such pairs
pub record ReadingMove (d : Dependences) (p q : Position × Position) : Type 0 where
  pub moves : Moves d p q
  pub from : HasReader d p
  pub to : HasReader d q

-- the root of an assignment
abbrev pub IsRoot : Position → Type 0
IsRoot (Output o) = ⊥
IsRoot (Node s k) = k ≡ 0
IsRoot (InitialOutput o) = ⊥
IsRoot (InitialNode s k) = ⊥

-- a recurrence pair: it lies on a cycle of moves, with the root of an assignment on a side; and no read or output stands on
-- either side, or it lies on a cycle through pairs with a read or an output alone
pub record IsRecurrent (d : Dependences) (p : Position × Position) : Type 0 where
  pub cycle : Leads (Moves d) p p
  pub root : IsRoot p.0 ⊎ IsRoot p.1
  pub reading : ¬ (HasReader d p) ⊎ Leads (ReadingMove d) p p

-- those of the pairs that recur
abbrev pub AreRecurrent : Dependences → List (Position × Position) → List (Position × Position) → Type 0
AreRecurrent d pairs recurrent = (p : Position × Position) → IsAmong p recurrent ↔ (IsAmong p pairs × IsRecurrent d p)

-- the pair is one of these, and its number is below another
pub record HasLess (pairs : List (Position × Position)) (ranks : List ℕ) (p : Position × Position) (rank : ℕ) : Type 0 where
  pub place : ℕ
  pub is : slice_get pairs place ≡ Some p
  pub own : ℕ
  pub own_is : slice_get ranks place ≡ Some own
  pub less : own < rank

-- a number for each pair, in order: each move leads to a recurrence pair or to a pair with a smaller number
pub record AreRanks (d : Dependences) (pairs recurrent : List (Position × Position)) (ranks : List ℕ) : Type 0 where
  pub each : length ranks ≡ length pairs
  pub falls : (i rank : ℕ) (p q : Position × Position) → slice_get pairs i ≡ Some p → slice_get ranks i ≡ Some rank → Moves d p q → IsAmong q recurrent ⊎ HasLess pairs ranks q rank

-- two calls of one symbol of two arguments that is declared commutative
pub record IsSite (g : Pairing) (p : Position × Position) : Type 0 where
  pub left : CallAt
  pub right : CallAt
  pub left_is : call_at g.left p.0 ≡ Some left
  pub right_is : call_at g.right p.1 ≡ Some right
  pub one_symbol : left.symbol ≡ right.symbol
  pub swaps : g.swaps left.symbol ≡ true

-- the sites among some pairs
abbrev pub AreSites : Pairing → List (Position × Position) → List Site → Type 0
AreSites g pairs sites = (s : Site) → IsAmong s sites ↔ (IsAmong (s.left, s.right) pairs × IsSite g (s.left, s.right))
