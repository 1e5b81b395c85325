-- What a model says of the execution of its program at a valuation of the parameters.
use Rattle.std.specs.Prelude.{ℕ, ◌≡◌, ◌<◌, ◌↔◌, ◌++◌, List, [], ℤ, length, Some, slice_get}
use Rattle.ac_forms.specs.Affine.{Affine}
use Rattle.ac_forms.specs.Rows.{Meets, HaveModuli}
use Rattle.ac_forms.specs.declared.row.Row.{Row}
use Rattle.ac_syntax.specs.Index.{point}
use Rattle.ac_syntax.specs.ValueNodes.{node_of}
use Rattle.ac_syntax.specs.Outputs.{InExtents, extents_at}
use Rattle.ac_syntax.specs.ReadyPrograms.{ReadyProgram, FitParts}
use Rattle.ac_syntax.specs.Trace.{trace_of}
use Rattle.ac_syntax.specs.declared.tree.Cond.{Cond}
use Rattle.ac_syntax.specs.declared.tree.Program.{Program}
use Rattle.ac_syntax.specs.Algebra.{target}
use Rattle.ac_syntax.specs.Source.{Writer, Stands}
pub use Rattle.ac_syntax.specs.Where.{Execution, InstanceAt}
unfoldable pub use Rattle.ac_syntax.specs.Where.{At}
use Rattle.ac_syntax.specs.declared.tree.Value.{Value}
use Rattle.ac_poly.specs.ModelMeaning.{cell_of, Shows}
use Rattle.ac_poly.specs.declared.types.Model.{Model}
use Rattle.ac_poly.specs.declared.types.StmtModel.{StmtModel}
use Rattle.ac_poly.specs.Model.{model_of}
use Rattle.ac_claims_paths.specs.InstanceCoordinates.{width, coordinates, levels_before}
use Rattle.ac_claims_paths.specs.ModelPositions.{extent_rows}
use Rattle.ac_forms.specs.PieceMembership.{IsInSome}

-- the model of the assignment of an entry
pub record ModelOf (m : Model) (x : Execution) (w : Writer) : Type 0 where
  pub stmt : StmtModel
  pub is : slice_get m.stmts w.entry.stmt ≡ Some stmt
  pub width : length (x.coords w.entry) ≡ width stmt

-- the extents of an output
pub record ExtentsOf (m : Model) (params : List ℤ) (o : ℕ) (at : List ℤ) : Type 0 where
  pub extents : List Affine
  pub is : slice_get m.extents o ≡ Some extents
  pub count : length at ≡ length extents
  pub within : Meets (extent_rows (length params) extents) (params ++ at)

-- what a model says of the execution: all that the judge takes from the lowering of programs
pub record Describes (m : Model) (params : List ℤ) (x : Execution) : Type 0 where
  pub count : m.params ≡ length params
  pub entry : (w : Writer) → Stands x.trace w → ModelOf m x w
  pub piece : (w : Writer) (stmt : StmtModel) → Stands x.trace w → slice_get m.stmts w.entry.stmt ≡ Some stmt → IsInSome Meets stmt.pieces (params ++ x.coords w.entry)
  pub instance : (number : ℕ) (stmt : StmtModel) (at : List ℤ) → slice_get m.stmts number ≡ Some stmt → length at ≡ width stmt → IsInSome Meets stmt.pieces (params ++ at) → (w : Writer) × InstanceAt x number at w
  pub once : (w u : Writer) → Stands x.trace w → Stands x.trace u → w.entry.stmt ≡ u.entry.stmt → x.coords w.entry ≡ x.coords u.entry → w ≡ u
  pub cell : (w : Writer) (stmt : StmtModel) → Stands x.trace w → slice_get m.stmts w.entry.stmt ≡ Some stmt → target w.entry ≡ cell_of stmt (params ++ x.coords w.entry)
  pub node : (w : Writer) (stmt : StmtModel) → Stands x.trace w → slice_get m.stmts w.entry.stmt ≡ Some stmt
      → (number : ℕ) (v : Value) → node_of w.entry.value number ≡ Some v → Shows (params ++ x.coords w.entry) w.entry.point v number (slice_get stmt.nodes number)
  pub order : (w u : Writer) (first second : StmtModel) → Stands x.trace w → Stands x.trace u → slice_get m.stmts w.entry.stmt ≡ Some first → slice_get m.stmts u.entry.stmt ≡ Some second
      → (length w.earlier < length u.earlier) ↔ IsInSome Meets (levels_before (length params) w.entry.stmt first u.entry.stmt second) (params ++ (x.coords w.entry ++ x.coords u.entry))
  pub elements : (o : ℕ) (at : List ℤ) → x.inside o at → ExtentsOf m params o at
  pub pieces_moduli : (number : ℕ) (stmt : StmtModel) (k : ℕ) (rows : List Row) → slice_get m.stmts number ≡ Some stmt → slice_get stmt.pieces k ≡ Some rows → HaveModuli rows
  pub levels_moduli : (u : ℕ) (first : StmtModel) (s : ℕ) (second : StmtModel) (k : ℕ) (rows : List Row) → slice_get (levels_before m.params u first s second) k ≡ Some rows → HaveModuli rows

-- the elements of an array that is there
abbrev pub elements : Program → Model → List ℤ → ℕ → List ℤ → Type 0
elements p m params o at = (extents : List Affine) × (slice_get m.extents o ≡ Some extents) × InExtents (point params []) (extents_at p.arrays o) at

-- the execution of a program at a valuation of its parameters
abbrev pub execution : Program → Model → List ℤ → Execution
execution p m params = record { trace = trace_of p.body params; inside = elements p m params; coords = coordinates m params }

-- the model of a ready program under a context describes its execution at each valuation
abbrev pub ModelsDescribe : Type 0
ModelsDescribe = (p : Program) (context : Cond) (params : List ℤ) → ReadyProgram p → FitParts (length p.params) 0 context.parts → length params ≡ length p.params → Describes (model_of p context) params (execution p (model_of p context) params)
