-- What a model has at a position's coordinates, at a valuation of the parameters.
use Rattle.std.specs.Prelude.{ℕ, ◌≡◌, ◌<◌, ◌++◌, List, length, ℤ, Some, slice_get}
use Rattle.ac_forms.specs.Affine.{Affine}
use Rattle.ac_forms.specs.Rows.{Meets}
use Rattle.ac_syntax.specs.declared.tree.Position.{Position}
use Rattle.ac_syntax.specs.declared.tree.Position.TheVariants.{Output, Node, InitialOutput, InitialNode}
use Rattle.ac_poly.specs.CoordinateColumns.{element_rows}
use Rattle.ac_poly.specs.declared.types.Model.{Model}
use Rattle.ac_poly.specs.declared.types.NodeModel.TheVariants.{Read}
use Rattle.ac_poly.specs.declared.types.StmtModel.{StmtModel}
use Rattle.ac_claims_paths.specs.InstanceCoordinates.{width}
use Rattle.ac_forms.specs.PieceMembership.{IsInSome}

-- an element of an array
pub record IsElement (m : Model) (params : List ℤ) (array : ℕ) (at : List ℤ) : Type 0 where
  pub extents : List Affine
  pub is : slice_get m.extents array ≡ Some extents
  pub count : length at ≡ length extents
  pub within : Meets (element_rows m.params extents) (params ++ at)

-- an instance of an assignment
pub record IsInstance (m : Model) (params : List ℤ) (number : ℕ) (at : List ℤ) (stmt : StmtModel) : Type 0 where
  pub is : slice_get m.stmts number ≡ Some stmt
  pub count : length at ≡ width stmt
  pub piece : IsInSome Meets stmt.pieces (params ++ at)

-- a node of its value, and one that reads
pub record IsNode (m : Model) (params : List ℤ) (number node : ℕ) (at : List ℤ) : Type 0 where
  pub stmt : StmtModel
  pub instance : IsInstance m params number at stmt
  pub within : node < length stmt.nodes

pub record IsReadNode (m : Model) (params : List ℤ) (number node : ℕ) (at : List ℤ) : Type 0 where
  pub stmt : StmtModel
  pub instance : IsInstance m params number at stmt
  pub array : ℕ
  pub subs : List Affine
  pub read : slice_get stmt.nodes node ≡ Some (Read array subs)

-- the position stands at the coordinates
abbrev pub IsHere : Model → List ℤ → Position → List ℤ → Type 0
IsHere m params (Output o) at = IsElement m params o at
IsHere m params (Node s k) at = IsNode m params s k at
IsHere m params (InitialOutput o) at = IsElement m params o at
IsHere m params (InitialNode s k) at = IsReadNode m params s k at
