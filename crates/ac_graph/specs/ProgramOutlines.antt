-- The nodes of the values that a program assigns, as far as pairs move by them.
use Rattle.std.specs.Prelude.{ℕ, ◌≡◌, ◌+◌, List, [], ◌∷◌, ◌++◌, length, map, Option, Some, None, option_and_then, slice_get, Bool, true, false, nat_lt}
use Rattle.ac_syntax.specs.ValueNodes.{size}
use Rattle.ac_syntax.specs.Outputs.{swaps_of}
use Rattle.ac_syntax.specs.declared.tree.Position.{Position}
use Rattle.ac_syntax.specs.declared.tree.Position.TheVariants.{Output, Node, InitialOutput, InitialNode}
use Rattle.ac_syntax.specs.declared.tree.Stmt.{Stmt, Row_of-Stmt, end_of-Stmt, more_of-Stmt}
use Rattle.ac_syntax.specs.declared.tree.Stmt.TheVariants.{For', If', Assign}
use Rattle.ac_syntax.specs.declared.tree.Symbol.{Symbol}
use Rattle.ac_syntax.specs.declared.tree.Value.{Value, Row_of-Value, end_of-Value, more_of-Value}
use Rattle.ac_syntax.specs.declared.tree.Value.TheVariants.{Number, Access, Call'}
use Rattle.ac_poly.specs.ModelNodes.{roots}
use Rattle.ac_poly.specs.declared.types.Model.{Model}
use Rattle.ac_poly.specs.declared.types.NodeModel.{NodeModel}
use Rattle.ac_poly.specs.declared.types.NodeModel.TheVariants as node
use Rattle.ac_poly.specs.declared.types.StmtModel.{StmtModel}
use Rattle.ac_claims_paths.specs.PathSteps.{Pairing}
use Rattle.ac_claims_paths.specs.ModelPositions.{CallAt}
use Rattle.ac_graph.specs.PairMoves.{Dependences}
use Rattle.ac_graph.specs.declared.moves.Edges.{Edges}
use Rattle.ac_graph.specs.declared.outline.Outline.{Outline}
use Rattle.ac_graph.specs.declared.outline.Outline.TheVariants as outline
use Rattle.ac_graph.specs.declared.programs.Both.{Both}
use Rattle.ac_graph.specs.declared.programs.CallNode.{CallNode}
use Rattle.ac_graph.specs.declared.programs.Outlines.{Outlines}

-- a node of a model
abbrev pub outline_of : NodeModel → Outline
outline_of (node.Number f) = outline.Number
outline_of (node.Read array subs) = outline.Read
outline_of (node.Call symbol args) = outline.Call symbol args

abbrev pub outline_of_stmt : StmtModel → List Outline
outline_of_stmt stmt = map outline_of stmt.nodes

-- the nodes of a value whose root has the number `at`
unfoldable mutual
  pub outlined : Value → ℕ → List Outline
  outlined (Number e) at = outline.Number ∷ []
  outlined (Access array subs place) at = outline.Read ∷ []
  outlined (Call' symbol n args place) at = outline.Call symbol (roots args (at + 1)) ∷ outlined_in args (at + 1)

  pub outlined_in : {m : _} → Row_of-Value m → ℕ → List Outline
  outlined_in end_of-Value at = []
  outlined_in (more_of-Value v rest) at = outlined v at ++ outlined_in rest (at + size v)

-- those of values one after another
abbrev pub outlined_all : List Value → ℕ → List Outline
outlined_all [] at = []
outlined_all (v ∷ vs) at = outlined v at ++ outlined_all vs (at + size v)

-- the values of the assignments of a statement, in the order of the text
unfoldable mutual
  pub outlines : Stmt → List (List Outline)
  outlines (For' iter start cond step n body place) = outlines_in body
  outlines (If' cond n taken m other place) = outlines_in taken ++ outlines_in other
  outlines (Assign array subs value place) = outlined value 0 ∷ []

  pub outlines_in : {m : _} → Row_of-Stmt m → List (List Outline)
  outlines_in end_of-Stmt = []
  outlines_in (more_of-Stmt s rest) = outlines s ++ outlines_in rest

-- the node at a position
abbrev pub outline_at : Outlines → ℕ → ℕ → Option Outline
outline_at o s k = option_and_then (λ (nodes : List Outline). slice_get nodes k) (slice_get o.stmts s)

abbrev pub is_read : Outline → Bool
is_read outline.Number = false
is_read outline.Read = true
is_read (outline.Call symbol args) = false

abbrev pub is_some_read : Option Outline → Bool
is_some_read None = false
is_some_read (Some o) = is_read o

-- whether a read or an output stands at a position
abbrev pub reads_at : Outlines → Position → Bool
reads_at o (Output a) = nat_lt a o.arrays
reads_at o (Node s k) = is_some_read (outline_at o s k)
reads_at o (InitialOutput a) = false
reads_at o (InitialNode s k) = false

abbrev pub called_by : ℕ → Outline → Option CallAt
called_by s outline.Number = None
called_by s outline.Read = None
called_by s (outline.Call symbol args) = Some (record { symbol = symbol; args = map (Node s) args })

-- the call at a position
abbrev pub called_at : Outlines → Position → Option CallAt
called_at o (Output a) = None
called_at o (Node s k) = option_and_then (called_by s) (outline_at o s k)
called_at o (InitialOutput a) = None
called_at o (InitialNode s k) = None

-- a call as the code has it
abbrev pub called : CallNode → CallAt
called c = record { symbol = c.symbol.now; args = map (Node c.stmt) c.args.now }

-- the outlines are those of a model
pub record IsOutlineOf (m : Model) (o : Outlines) : Type 0 where
  pub stmts : o.stmts ≡ map outline_of_stmt m.stmts
  pub arrays : o.arrays ≡ length m.extents

-- those of both programs, and the names of the symbols that may be swapped
pub record AreOutlinesOf (g : Pairing) (b : Both) : Type 0 where
  pub left : IsOutlineOf g.left b.left
  pub right : IsOutlineOf g.right b.right
  pub swaps : (s : Symbol) → g.swaps s ≡ swaps_of b.commutative.now s

-- the same with the edges of each
pub record AreEdgesOf (d : Dependences) (e : Edges) : Type 0 where
  pub programs : AreOutlinesOf d.programs e.both.now
  pub left : e.left.now ≡ d.left
  pub right : e.right.now ≡ d.right
