-- Where no copy has a point, what is assumed for a read or an output is its source.
use Rattle.std.specs.Prelude.{ℕ, ◌+◌, ◌≡◌, ◌↔◌, List, ◌++◌, length, ℤ, Some, None, slice_get}
use Rattle.ac_forms.specs.Rows.{Meets}
use Rattle.ac_forms.specs.declared.conj.Conj.{Conj}
use Rattle.ac_forms.specs.declared.row.Row.{Row}
use Rattle.ac_syntax.specs.Algebra.{Cell}
use Rattle.ac_syntax.specs.Source.{Writer, source}
use Rattle.ac_syntax.specs.Spot.{Spot, Reads}
use Rattle.ac_syntax.specs.Trace.{Entry}
use Rattle.ac_syntax.specs.declared.tree.Position.{Position}
use Rattle.ac_syntax.specs.declared.tree.Program.{Program}
use Rattle.ac_poly.specs.declared.types.Model.{Model}
use Rattle.ac_poly.specs.declared.types.StmtModel.{StmtModel}
use Rattle.ac_claims_paths.specs.PathColumns.{all_of}
use Rattle.ac_claims_paths.specs.InstanceCoordinates.{width}
use Rattle.ac_claims_paths.specs.Executions.{Execution, InstanceAt, At, Describes, execution}
use Rattle.ac_claims_paths.specs.PathSteps.{root}
use Rattle.ac_forms.specs.ListMembers.{IsAmong}
use Rattle.ac_claims_paths.specs.ModelPositions.{cell_read}
use Rattle.ac_claims_paths.specs.declared.places.CellForms.{CellForms}
use Rattle.ac_flow.specs.Writings.{reading, rows_of, writings, copies}
use Rattle.ac_claims_paths.specs.declared.path.CopyNumbers.{CopyNumbers}
use Rattle.ac_forms.specs.Negation.{HasExtension}
use Rattle.ac_forms.specs.PieceMembership.{IsInNone}

-- the position reads, at these coordinates, a cell behind these entries
pub record IsReading (x : Execution) (reader : Position) (at : List ℤ) (cell : Cell) (before : List Entry) : Type 0 where
  pub spot : Spot
  pub here : At x reader at spot
  pub reads : Reads x.trace spot cell before

-- the source is the instance of an assignment with these coordinates
pub record IsSource (x : Execution) (cell : Cell) (before : List Entry) (number : ℕ) (at : List ℤ) : Type 0 where
  pub writer : Writer
  pub found : source cell before ≡ Some writer
  pub instance : InstanceAt x number at writer

-- at a point of a writing's rows, that writing is the source exactly where no copy has a point; and the value is the initial
-- one exactly where no writing before the reader has a point
pub record NoCopy (m : Model) (params : List ℤ) (x : Execution) (reader : Position) (forms : CellForms) : Type 0 where
  pub assumed : (at ys : List ℤ) (cell : Cell) (before : List Entry) (w : CopyNumbers) (stmt : StmtModel) (rows : List Row) (all : List Conj)
      → IsReading x reader at cell before → slice_get m.stmts w.stmt ≡ Some stmt → length ys ≡ width stmt
      → rows_of m (reading m reader (length at) None) (m.params + length at) w stmt ≡ Some rows → Meets rows (params ++ (at ++ ys))
      → all_of (copies m (reading m reader (length at) (Some (root (m.params + length at) w.stmt stmt))) forms.array) ≡ Some all
      → IsSource x cell before w.stmt ys ↔ IsInNone HasExtension all (params ++ (at ++ ys))
  pub initial : (at : List ℤ) (cell : Cell) (before : List Entry) (all : List Conj) → IsReading x reader at cell before
      → all_of (copies m (reading m reader (length at) None) forms.array) ≡ Some all → (source cell before ≡ None) ↔ IsInNone HasExtension all (params ++ at)

abbrev pub NoCopyIsTheSource : Type 0
NoCopyIsTheSource = (p : Program) (m : Model) (params : List ℤ) (reader : Position) (forms : CellForms) → Describes m params (execution p m params) → cell_read m reader ≡ Some forms → NoCopy m params (execution p m params) reader forms

-- the source of a reader is among the writings, and meets their rows where they can be made
pub record HasRows (m : Model) (params : List ℤ) (x : Execution) (reader : Position) (forms : CellForms) (at : List ℤ) (u : Writer) : Type 0 where
  pub writing : CopyNumbers
  pub among : IsAmong writing (writings m reader forms.array None)
  pub stmt : StmtModel
  pub is : slice_get m.stmts writing.stmt ≡ Some stmt
  pub instance : InstanceAt x writing.stmt (x.coords u.entry) u
  pub wide : length (x.coords u.entry) ≡ width stmt
  pub meets : (rows : List Row) → rows_of m (reading m reader (length at) None) (m.params + length at) writing stmt ≡ Some rows → Meets rows (params ++ (at ++ x.coords u.entry))

abbrev pub TheSourceHasRows : Type 0
TheSourceHasRows =
    (p : Program) (m : Model) (params : List ℤ) (reader : Position) (forms : CellForms) → Describes m params (execution p m params) → cell_read m reader ≡ Some forms
    → (at : List ℤ) (cell : Cell) (before : List Entry) (u : Writer) → IsReading (execution p m params) reader at cell before → source cell before ≡ Some u → HasRows m params (execution p m params) reader forms at u
