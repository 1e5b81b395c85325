-- What a model has at a position: its pieces, its coordinates, and the cell that is read there.
use Rattle.std.specs.Prelude.{ℕ, ◌+◌, pos, negsuc, List, [], ◌∷◌, map, length, Option, Some, None, option_and_then, option_map, slice_get}
use Rattle.std.specs.List.{range_with_len}
use Rattle.ac_forms.specs.Affine.{Affine, column_form, combined, shifted}
use Rattle.ac_forms.specs.declared.row.Row.{Row}
use Rattle.ac_forms.specs.declared.row.Row.TheVariants.{Ge}
use Rattle.ac_syntax.specs.declared.tree.Position.{Position}
use Rattle.ac_syntax.specs.declared.tree.Position.TheVariants.{Output, Node, InitialOutput, InitialNode}
use Rattle.ac_syntax.specs.declared.tree.Symbol.{Symbol}
use Rattle.ac_poly.specs.declared.types.Model.{Model}
use Rattle.ac_poly.specs.declared.types.NodeModel.{NodeModel}
use Rattle.ac_poly.specs.declared.types.NodeModel.TheVariants.{Number, Read, Call}
use Rattle.ac_poly.specs.declared.types.StmtModel.{StmtModel}
use Rattle.ac_claims_paths.specs.InstanceCoordinates.{levels_before}
pub use Rattle.ac_claims_paths.specs.declared.places.CellForms.{CellForms}

-- the element of an output: its subscripts are the coordinates
abbrev pub element_forms : ℕ → ℕ → List Affine
element_forms params count = map (λ k. column_form (k + 1) k) (range_with_len params count)

abbrev pub node_at : Model → ℕ → ℕ → Option NodeModel
node_at m s k = option_and_then (λ (stmt : StmtModel). slice_get stmt.nodes k) (slice_get m.stmts s)

abbrev pub read_of : NodeModel → Option CellForms
read_of (Number f) = None
read_of (Read array subs) = Some (record { array = array; subs = subs })
read_of (Call symbol args) = None

abbrev pub output_cell : Model → ℕ → Option CellForms
output_cell m o = option_map (λ (extents : List Affine). record { array = o; subs = element_forms m.params (length extents) }) (slice_get m.extents o)

-- the cell that a read or an output reads
abbrev pub cell_read : Model → Position → Option CellForms
cell_read m (Output o) = output_cell m o
cell_read m (Node s k) = option_and_then read_of (node_at m s k)
cell_read m (InitialOutput o) = None
cell_read m (InitialNode s k) = None

-- the cell whose initial contents an initial position stands for
abbrev pub initial_cell : Model → Position → Option CellForms
initial_cell m (Output o) = None
initial_cell m (Node s k) = None
initial_cell m (InitialOutput o) = output_cell m o
initial_cell m (InitialNode s k) = option_and_then read_of (node_at m s k)

abbrev pub number_of : NodeModel → Option Affine
number_of (Number f) = Some f
number_of (Read array subs) = None
number_of (Call symbol args) = None

-- the form of a number
abbrev pub number_at : Model → Position → Option Affine
number_at m (Output o) = None
number_at m (Node s k) = option_and_then number_of (node_at m s k)
number_at m (InitialOutput o) = None
number_at m (InitialNode s k) = None

-- a call: its symbol and the positions of its arguments
pub record CallAt : Type 0 where
  pub symbol : Symbol
  pub args : List Position

abbrev pub call_of : ℕ → NodeModel → Option CallAt
call_of s (Number f) = None
call_of s (Read array subs) = None
call_of s (Call symbol args) = Some (record { symbol = symbol; args = map (Node s) args })

abbrev pub call_at : Model → Position → Option CallAt
call_at m (Output o) = None
call_at m (Node s k) = option_and_then (call_of s) (node_at m s k)
call_at m (InitialOutput o) = None
call_at m (InitialNode s k) = None

-- the position of the initial contents of what is read
abbrev pub initial_of : Position → Position
initial_of (Output o) = InitialOutput o
initial_of (Node s k) = InitialNode s k
initial_of (InitialOutput o) = InitialOutput o
initial_of (InitialNode s k) = InitialNode s k

-- a coordinate is at least 0 and less than its extent
abbrev pub extent_rows : ℕ → List Affine → List Row
extent_rows k [] = []
extent_rows k (e ∷ es) = Ge (column_form (k + 1) k) ∷ Ge (shifted (combined (pos 1) e (negsuc 0) (column_form (k + 1) k)) (negsuc 0)) ∷ extent_rows (k + 1) es

abbrev pub levels_at : Model → ℕ → StmtModel → ℕ → Option StmtModel → List (List Row)
levels_at m u stmt s (Some reader) = levels_before m.params u stmt s reader
levels_at m u stmt s None = []

-- the levels by which an instance of the assignment u stands before a read or an output; all instances stand before an output
abbrev pub levels_to : Model → ℕ → StmtModel → Position → List (List Row)
levels_to m u stmt (Output o) = [] ∷ []
levels_to m u stmt (Node s k) = levels_at m u stmt s (slice_get m.stmts s)
levels_to m u stmt (InitialOutput o) = []
levels_to m u stmt (InitialNode s k) = []
