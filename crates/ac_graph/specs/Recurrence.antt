-- Which of the pairs that are found recur, by their numbers.
use Rattle.std.specs.Prelude.{ℕ, ◌≡◌, ◌↔◌, ◌⊎◌, ◌<◌, ◌&&◌, ◌||◌, not, List, map, length, Some, slice_get, Bool, false, nat_eq}
use Rattle.ac_syntax.specs.declared.tree.Position.{Position}
use Rattle.ac_syntax.specs.declared.tree.Position.TheVariants.{Output, Node, InitialOutput, InitialNode}
use Rattle.ac_graph.specs.NodeMarks.{is_marked}
use Rattle.ac_graph.specs.PairMoves.{IsRoot}
use Rattle.ac_graph.specs.ProgramOutlines.{reads_at}
use Rattle.ac_graph.specs.Ways.{Leads, Edge, IsMarked}
use Rattle.ac_graph.specs.declared.programs.Both.{Both}

-- whether a read or an output stands on either side
abbrev pub has_reader : Both → Position × Position → Bool
has_reader b p = reads_at b.left p.0 || reads_at b.right p.1

abbrev pub readers : Both → List (Position × Position) → List Bool
readers b pairs = map (has_reader b) pairs

-- whether a position is the root of an assignment
abbrev pub is_root : Position → Bool
is_root (Output o) = false
is_root (Node s k) = nat_eq k 0
is_root (InitialOutput o) = false
is_root (InitialNode s k) = false

-- whether a pair recurs, by what is known of it
abbrev pub recurs : Position × Position → Bool → Bool → Bool → Bool
recurs p on_cycle reader reading = (on_cycle && (is_root p.0 || is_root p.1)) && (not reader || reading)

-- an edge between two pairs with a read or an output
abbrev pub ReadingEdge : Both → List (Position × Position) → List (List ℕ) → ℕ → ℕ → Type 0
ReadingEdge b pairs next i j = Edge next i j × IsMarked (readers b pairs) i × IsMarked (readers b pairs) j

-- the pair with a number recurs
abbrev pub RecursAt : Both → List (Position × Position) → List (List ℕ) → ℕ → Position × Position → Type 0
RecursAt b pairs next i p = Leads (Edge next) i i × (IsRoot p.0 ⊎ IsRoot p.1) × (¬ (IsMarked (readers b pairs) i) ⊎ Leads (ReadingEdge b pairs next) i i)

-- a mark for each pair, set exactly where it recurs
pub record AreRecurring (b : Both) (pairs : List (Position × Position)) (next : List (List ℕ)) (marks : List Bool) : Type 0 where
  pub wide : length marks ≡ length pairs
  pub marked : (i : ℕ) (p : Position × Position) → slice_get pairs i ≡ Some p → IsMarked marks i ↔ RecursAt b pairs next i p

-- an edge to a node that is not marked
abbrev pub PlainEdge : List (List ℕ) → List Bool → ℕ → ℕ → Type 0
PlainEdge next marks i j = Edge next i j × ¬ (IsMarked marks j)

-- a number for each node, which falls along each edge to a node that is neither marked nor on a cycle of such edges
pub record AreFallingOutside (next : List (List ℕ)) (marks : List Bool) (ranks : List ℕ) : Type 0 where
  pub wide : length ranks ≡ length next
  pub falls : (i j r s : ℕ) → PlainEdge next marks i j → ¬ (Leads (PlainEdge next marks) j j) → slice_get ranks i ≡ Some r → slice_get ranks j ≡ Some s → s < r

-- one of the first pairs is this one, and its mark is set
pub record HasMark (pairs : List (Position × Position)) (marks : List Bool) (below : ℕ) (p : Position × Position) : Type 0 where
  pub place : ℕ
  pub within : place < below
  pub is : slice_get pairs place ≡ Some p
  pub marked : IsMarked marks place

-- a mark for each pair by what is known of it
pub record AreMarkedBy (pairs : List (Position × Position)) (on_cycles readers on_reading marks : List Bool) : Type 0 where
  pub wide : length marks ≡ length pairs
  pub marked : (i : ℕ) (p : Position × Position) → slice_get pairs i ≡ Some p → is_marked marks i ≡ recurs p (is_marked on_cycles i) (is_marked readers i) (is_marked on_reading i)
