-- What a graph says of executions: its edges are the sources of reads and outputs, and pairs of positions step along its moves.
use Rattle.std.specs.Prelude.{ℕ, suc, ◌≡◌, ◌↔◌, ◌≤◌, List, [], ℤ, length, Some, slice_get, true}
use Rattle.ac_syntax.specs.Index.{point, holds}
use Rattle.ac_syntax.specs.Outputs.{IsValuation, input_at, swaps_of}
use Rattle.ac_syntax.specs.ReadyPrograms.{ReadyProgram, FitParts}
use Rattle.ac_syntax.specs.declared.tree.Cond.{Cond}
use Rattle.ac_syntax.specs.declared.tree.Order.{Order}
use Rattle.ac_syntax.specs.declared.tree.Pair.{Pair}
use Rattle.ac_syntax.specs.declared.tree.Position.{Position}
use Rattle.ac_syntax.specs.declared.tree.Position.TheVariants.{Output, Node, InitialOutput, InitialNode}
use Rattle.ac_syntax.specs.declared.tree.Program.{Program}
use Rattle.ac_poly.specs.Model.{model_of, is_input}
use Rattle.ac_poly.specs.declared.types.Model.{Model}
use Rattle.ac_claims.specs.ProofFaults.{is_output_array}
use Rattle.ac_claims.specs.Soundness.{ArePaired}
use Rattle.ac_claims_paths.specs.Executions.{Describes, execution}
use Rattle.ac_claims_paths.specs.OnPaths.{Compared}
use Rattle.ac_forms.specs.ListMembers.{IsAmong}
use Rattle.ac_claims_paths.specs.Pairs.{Placed, ResolvesTo, StepsTo}
use Rattle.ac_claims_paths.specs.StepLaws.{compared}
use Rattle.ac_flow.specs.Readers.{AreFlows, readers}
use Rattle.ac_flow.specs.declared.types.Flow.{Flow}
use Rattle.ac_graph.specs.PairMoves.{IsEdge, Moves, Reaches, AreRanks, dependences, starts_of}

-- ---- edges

-- a ready program under a context, with a flow for each of its reads and outputs
pub record HasFlow (p : Program) (context : Cond) (f : Flow) : Type 0 where
  pub ready : ReadyProgram p
  pub fit : FitParts (length p.params) 0 context.parts
  pub flows : AreFlows (model_of p context) (readers (model_of p context)) f.reads

-- where the position is an output, its array is an input with at least one dimension
abbrev pub IsNamed : Model → Position → Type 0
IsNamed m (Output o) = is_output_array m o ≡ true
IsNamed m (Node s k) = Unit {0}
IsNamed m (InitialOutput o) = Unit {0}
IsNamed m (InitialNode s k) = Unit {0}

-- at some valuation of the context the read or output goes, at some instance or element, from the one position to the other:
-- to the root of its source's assignment, or to its initial position, where nothing before writes the cell
pub record Resolves (p : Program) (context : Cond) (from to : Position) : Type 0 where
  pub params : List ℤ
  pub each : length params ≡ length p.params
  pub context_holds : holds (point params []) context ≡ true
  pub a : Placed (execution p (model_of p context) params)
  pub b : Placed (execution p (model_of p context) params)
  pub goes : ResolvesTo (execution p (model_of p context) params) a b
  pub from_is : a.position ≡ from
  pub to_is : b.position ≡ to

-- an edge is there exactly where some instance or element has this source
abbrev pub EdgesAreSources : Type 0
EdgesAreSources = (p : Program) (context : Cond) (f : Flow) → HasFlow p context f → (from to : Position) → IsEdge f from to ↔ (IsNamed (model_of p context) from × Resolves p context from to)

-- the edges of a program under a context are its sources
abbrev pub AreSources : Program → Cond → List (Position × Position) → Type 0
AreSources p context edges = (from to : Position) → IsAmong (from, to) edges ↔ (IsNamed (model_of p context) from × Resolves p context from to)

-- ---- steps

-- both programs of a pair, with a flow for each of their reads and outputs
pub record HaveFlows (pair : Pair) (left right : Flow) : Type 0 where
  pub paired : ArePaired pair
  pub left_are : AreFlows (model_of pair.left pair.context) (readers (model_of pair.left pair.context)) left.reads
  pub right_are : AreFlows (model_of pair.right pair.context) (readers (model_of pair.right pair.context)) right.reads

-- the same, and the edges of these flows
pub record HaveEdges (pair : Pair) (left right : Flow) (left_edges right_edges : List (Position × Position)) : Type 0 where
  pub flows : HaveFlows pair left right
  pub left_are : (p q : Position) → IsAmong (p, q) left_edges ↔ IsEdge left p q
  pub right_are : (p q : Position) → IsAmong (p, q) right_edges ↔ IsEdge right p q

-- a valuation of the context, at which the models describe the executions of both programs
pub record IsCompared (pair : Pair) (params : List ℤ) : Type 0 where
  pub valuation : IsValuation pair params
  pub count : (model_of pair.left pair.context).params ≡ length params
  pub left : Describes (model_of pair.left pair.context) params (execution pair.left (model_of pair.left pair.context) params)
  pub right : Describes (model_of pair.right pair.context) params (execution pair.right (model_of pair.right pair.context) params)
  pub inputs : (a : ℕ) → is_input (slice_get (model_of pair.left pair.context).kinds a) ≡ true → input_at pair.left.arrays a ≡ true

-- both programs at the valuation
abbrev pub comparison : (pair : Pair) (params : List ℤ) → IsCompared pair params → Compared
comparison pair params c =
    compared pair.left pair.right (model_of pair.left pair.context) (model_of pair.right pair.context) params (swaps_of pair.commutative) (input_at pair.left.arrays) c.count c.left c.right c.inputs

-- the positions of either program there, at the coordinates of an instance or an element
abbrev pub LeftPlaced : Pair → List ℤ → Type 0
LeftPlaced pair params = Placed (execution pair.left (model_of pair.left pair.context) params)

abbrev pub RightPlaced : Pair → List ℤ → Type 0
RightPlaced pair params = Placed (execution pair.right (model_of pair.right pair.context) params)

-- each valuation of the context is one
abbrev pub ValuationsAreCompared : Type 0
ValuationsAreCompared = (pair : Pair) (params : List ℤ) → ArePaired pair → IsValuation pair params → IsCompared pair params

-- the outputs are inputs with at least one dimension in both programs
abbrev pub HaveOutputs : Pair → List ℕ → Type 0
HaveOutputs pair outputs = (o : ℕ) → IsAmong o outputs → IsNamed (model_of pair.left pair.context) (Output o) × IsNamed (model_of pair.right pair.context) (Output o)

-- where a pair of positions steps, it moves
abbrev pub StepsAreMoves : Type 0
StepsAreMoves =
    (pair : Pair) (left right : Flow) (ls rs : List (Position × Position)) (params : List ℤ) → HaveEdges pair left right ls rs → (c : IsCompared pair params) (order : Order) (a a' : LeftPlaced pair params) (b b' : RightPlaced pair params)
    → IsNamed (model_of pair.left pair.context) a.position → IsNamed (model_of pair.right pair.context) b.position → StepsTo (comparison pair params c) order a b a' b' → Moves (dependences pair ls rs) (a.position, b.position) (a'.position, b'.position)

-- the pairs of positions that steps reach at a valuation from outputs, each of both programs against itself at one element
pub data IsMet (pair : Pair) (params : List ℤ) (c : IsCompared pair params) (outputs : List ℕ) : LeftPlaced pair params → RightPlaced pair params → Type 0 where
  start : (o : ℕ) (a : LeftPlaced pair params) (b : RightPlaced pair params) → IsAmong o outputs → a.position ≡ Output o → b.position ≡ Output o → a.at ≡ b.at → IsMet pair params c outputs a b
  step : (order : Order) (a a' : LeftPlaced pair params) (b b' : RightPlaced pair params) → IsMet pair params c outputs a b → StepsTo (comparison pair params c) order a b a' b' → IsMet pair params c outputs a' b'

-- moves reach the positions of each pair that is met
abbrev pub MetAreReached : Type 0
MetAreReached =
    (pair : Pair) (left right : Flow) (ls rs : List (Position × Position)) (outputs : List ℕ) (params : List ℤ) → HaveEdges pair left right ls rs → HaveOutputs pair outputs
    → (c : IsCompared pair params) (a : LeftPlaced pair params) (b : RightPlaced pair params) → IsMet pair params c outputs a b → Reaches (dependences pair ls rs) (starts_of outputs) (a.position, b.position)

-- the pairs are all that steps meet from outputs, and maybe others
abbrev pub HoldMet : Pair → List ℕ → List (Position × Position) → Type 0
HoldMet pair outputs pairs = (params : List ℤ) (c : IsCompared pair params) (a : LeftPlaced pair params) (b : RightPlaced pair params) → IsMet pair params c outputs a b → IsAmong (a.position, b.position) pairs

-- ---- chains of steps

-- so many steps lead from the first pair to the second, each to one whose positions are not among these
pub data Avoids (pair : Pair) (params : List ℤ) (c : IsCompared pair params) (avoided : List (Position × Position)) (a : LeftPlaced pair params) (b : RightPlaced pair params) : ℕ → LeftPlaced pair params → RightPlaced pair params → Type 0 where
  none : Avoids pair params c avoided a b 0 a b
  more : (n : ℕ) (order : Order) (a' a'' : LeftPlaced pair params) (b' b'' : RightPlaced pair params) → Avoids pair params c avoided a b n a' b' → StepsTo (comparison pair params c) order a' b' a'' b''
      → ¬ (IsAmong (a''.position, b''.position) avoided) → Avoids pair params c avoided a b (suc n) a'' b''

-- from a pair that is met, more steps than its rank lead through a recurrence pair
abbrev pub BoundChains : Pair → List ℕ → List (Position × Position) → List (Position × Position) → List ℕ → Type 0
BoundChains pair outputs pairs recurrent ranks =
    (params : List ℤ) (c : IsCompared pair params) (a a' : LeftPlaced pair params) (b b' : RightPlaced pair params) → IsMet pair params c outputs a b
    → (place rank n : ℕ) → slice_get pairs place ≡ Some (a.position, b.position) → slice_get ranks place ≡ Some rank → Avoids pair params c recurrent a b n a' b' → n ≤ rank

abbrev pub ChainsRecur : Type 0
ChainsRecur =
    (pair : Pair) (left right : Flow) (ls rs : List (Position × Position)) (outputs : List ℕ) → HaveEdges pair left right ls rs → HaveOutputs pair outputs
    → (pairs recurrent : List (Position × Position)) (ranks : List ℕ) → AreRanks (dependences pair ls rs) pairs recurrent ranks → BoundChains pair outputs pairs recurrent ranks
