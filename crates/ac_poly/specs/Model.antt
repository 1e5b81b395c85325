-- The model of a whole program, and what its parts say of the program.
use Rattle.std.specs.Prelude.{ℕ, ◌≡◌, ◌↔◌, ◌<◌, ◌≤◌, ◌+◌, ◌++◌, List, [], length, map, ℤ, Option, Some, None, slice_get, Bool, true, false}
use Rattle.std.specs.List.{Contains, AllByRecursion}
use Rattle.ac_forms.specs.Affine.{Affine}
use Rattle.ac_forms.specs.Rows.{Meets, AreRowsOver}
use Rattle.ac_syntax.specs.Algebra.{target}
use Rattle.ac_syntax.specs.Index.{point, index_value, quot_value, holds}
use Rattle.ac_syntax.specs.ValueNodes.{size, node_of}
use Rattle.ac_syntax.specs.Outputs.{input_at, is_input_kind, InExtents, extents_at}
use Rattle.ac_syntax.specs.Quotients.{quotients_of}
use Rattle.ac_syntax.specs.Source.{Writer, Stands}
use Rattle.ac_syntax.specs.Trace.{Entry, trace_of}
use Rattle.ac_syntax.specs.declared.tree.Array.{Array}
use Rattle.ac_syntax.specs.declared.tree.Cond.{Cond}
use Rattle.ac_syntax.specs.declared.tree.Kind.{Kind}
use Rattle.ac_syntax.specs.declared.tree.Program.{Program}
use Rattle.ac_syntax.specs.declared.tree.Value.{Value}
use Rattle.ac_poly_quotients.specs.QuotientRows.{quotients_at}
use Rattle.ac_poly.specs.CoordinateColumns.{AreOver, element_rows}
use Rattle.ac_poly.specs.Coordinates.{width, coordinates, HasInstance, levels_before}
use Rattle.ac_poly.specs.IndexForms.{lowered, rows_of}
use Rattle.ac_poly.specs.ModelMeaning.{values_at, cell_of, Shows}
use Rattle.ac_poly.specs.Lower.{lowered_body}
use Rattle.ac_forms.specs.PieceMembership.{IsInSome, IsInOneAtMost}
use Rattle.ac_poly.specs.declared.types.Model.{Model}
use Rattle.ac_poly.specs.declared.types.NodeModel.{NodeModel}
use Rattle.ac_poly.specs.declared.types.NodeModel.TheVariants.{Number, Read, Call}
use Rattle.ac_poly.specs.declared.types.StmtModel.{StmtModel}

-- the extents of an array, over the parameters
abbrev pub extents_of : Array → List Affine
extents_of a = map (lowered []) a.extents

abbrev pub kind_of : Array → Kind
kind_of a = a.kind

-- the model of a program under a context
abbrev pub model_of : Program → Cond → Model
model_of p context = record {
  params = length p.params;
  context = rows_of [] context.parts;
  stmts = lowered_body (length p.params) p.body;
  extents = map extents_of p.arrays;
  kinds = map kind_of p.arrays;
}

-- the assignment of each entry has a model, with as many coordinates as the entry
abbrev pub HasModels : Program → Model → Type 0
HasModels p m =
    (params : List ℤ) (e : Entry) → length params ≡ m.params → Contains (trace_of p.body params) e
    → (stmt : StmtModel) × (slice_get m.stmts e.stmt ≡ Some stmt) × (length (coordinates m params e) ≡ width stmt)

-- coordinates lie in some piece of an assignment exactly where the trace has its instance with them
abbrev pub HasInstances : Program → Model → Type 0
HasInstances p m =
    (params at : List ℤ) (number : ℕ) (stmt : StmtModel) → length params ≡ m.params → slice_get m.stmts number ≡ Some stmt → length at ≡ width stmt
    → IsInSome Meets stmt.pieces (params ++ at) ↔ HasInstance m params (trace_of p.body params) number at

-- no coordinates lie in two pieces of an assignment
abbrev pub PiecesAreApart : Model → Type 0
PiecesAreApart m = (number : ℕ) (stmt : StmtModel) (p : List ℤ) → slice_get m.stmts number ≡ Some stmt → IsInOneAtMost Meets stmt.pieces p

-- each entry of the trace writes the cell of its model
abbrev pub HasCells : Program → Model → Type 0
HasCells p m =
    (params : List ℤ) (e : Entry) (stmt : StmtModel) → length params ≡ m.params → slice_get m.stmts e.stmt ≡ Some stmt → Contains (trace_of p.body params) e
    → target e ≡ cell_of stmt (params ++ coordinates m params e)

-- each node of an entry's value has its model with the index values of its forms, and there are no others
abbrev pub HasNodes : Program → Model → Type 0
HasNodes p m =
    (params : List ℤ) (e : Entry) (stmt : StmtModel) → length params ≡ m.params → slice_get m.stmts e.stmt ≡ Some stmt → Contains (trace_of p.body params) e
    → (length stmt.nodes ≡ size e.value)
    × ((number : ℕ) (v : Value) → node_of e.value number ≡ Some v → Shows (params ++ coordinates m params e) e.point v number (slice_get stmt.nodes number))

-- the quotients of an assignment have the values that its quotients in the text have at each instance, in the order of evaluation
abbrev pub HasQuotients : Program → Model → Type 0
HasQuotients p m =
    (params : List ℤ) (e : Entry) (stmt : StmtModel) → length params ≡ m.params → slice_get m.stmts e.stmt ≡ Some stmt → Contains (trace_of p.body params) e
    → quotients_at stmt.quots (params ++ e.counters) ≡ map (quot_value e.point) (quotients_of p.body e.stmt)

-- an entry stands before another in the trace exactly where one of the levels of their assignments holds
abbrev pub HasOrder : Program → Model → Type 0
HasOrder p m =
    (params : List ℤ) (w u : Writer) (first second : StmtModel) → length params ≡ m.params → slice_get m.stmts w.entry.stmt ≡ Some first → slice_get m.stmts u.entry.stmt ≡ Some second
    → Stands (trace_of p.body params) w → Stands (trace_of p.body params) u
    → (length w.earlier < length u.earlier)
    ↔ IsInSome Meets (levels_before m.params w.entry.stmt first u.entry.stmt second) (params ++ (coordinates m params w.entry ++ coordinates m params u.entry))

-- the context's rows hold exactly where the context does
abbrev pub HasContext : Cond → Model → Type 0
HasContext context m = (params : List ℤ) → length params ≡ m.params → Meets m.context params ↔ (holds (point params []) context ≡ true)

-- the forms of the extents have the values of the extents
abbrev pub HasExtents : Program → Model → Type 0
HasExtents p m = (params : List ℤ) → length params ≡ m.params → map (values_at params) m.extents ≡ map (λ a. map (index_value (point params [])) a.extents) p.arrays

-- coordinates, one for each extent of an array, meet the rows of its elements exactly where they name an element
abbrev pub HasElements : Program → Model → Type 0
HasElements p m =
    (params at : List ℤ) (array : ℕ) (extents : List Affine) → length params ≡ m.params → slice_get m.extents array ≡ Some extents
    → ((length at ≡ length extents) × Meets (element_rows m.params extents) (params ++ at)) ↔ InExtents (point params []) (extents_at p.arrays array) at

-- whether an array is an input; one that isn't there is none
abbrev pub is_input : Option Kind → Bool
is_input None = false
is_input (Some kind) = is_input_kind kind

-- the arrays that are inputs are those of the program
abbrev pub HasKinds : Program → Model → Type 0
HasKinds p m = (array : ℕ) → is_input (slice_get m.kinds array) ≡ input_at p.arrays array

-- the forms of a node have no coefficient past that many columns
abbrev pub NodeIsOver : ℕ → NodeModel → Type 0
NodeIsOver columns (Number f) = length f.coefs ≤ columns
NodeIsOver columns (Read array subs) = AreOver columns subs
NodeIsOver columns (Call symbol args) = Unit {0}

-- forms and rows are over the parameters and the coordinates, and each modulus is at least 1
pub record StmtIsOver (params : ℕ) (stmt : StmtModel) : Type 0 where
  pub pieces : AllByRecursion (AreRowsOver (params + width stmt)) stmt.pieces
  pub subs : AreOver (params + width stmt) stmt.subs
  pub nodes : AllByRecursion (NodeIsOver (params + width stmt)) stmt.nodes

-- the model is over as many parameters as the program has, and has no columns but its own
pub record HasColumns (p : Program) (m : Model) : Type 0 where
  pub params : m.params ≡ length p.params
  pub context : AreRowsOver m.params m.context
  pub stmts : (number : ℕ) (stmt : StmtModel) → slice_get m.stmts number ≡ Some stmt → StmtIsOver m.params stmt
  pub extents : (array : ℕ) (extents : List Affine) → slice_get m.extents array ≡ Some extents → AreOver m.params extents

-- a subscript for each dimension of the array
abbrev pub IsCellIn : List (List Affine) → ℕ → List Affine → Type 0
IsCellIn extents array subs = (own : List Affine) × (slice_get extents array ≡ Some own) × (length subs ≡ length own)

abbrev pub ReadsCellIn : List (List Affine) → NodeModel → Type 0
ReadsCellIn extents (Number f) = Unit {0}
ReadsCellIn extents (Read array subs) = IsCellIn extents array subs
ReadsCellIn extents (Call symbol args) = Unit {0}

pub record StmtHasDimensions (extents : List (List Affine)) (stmt : StmtModel) : Type 0 where
  pub written : IsCellIn extents stmt.array stmt.subs
  pub reads : AllByRecursion (ReadsCellIn extents) stmt.nodes

-- each cell that is read or assigned has a subscript for each dimension of its array
abbrev pub CellsHaveDimensions : Model → Type 0
CellsHaveDimensions m = (number : ℕ) (stmt : StmtModel) → slice_get m.stmts number ≡ Some stmt → StmtHasDimensions m.extents stmt
