-- Where a read or an output goes at its coordinates, by a flow.
use Rattle.std.specs.Prelude.{ℕ, ◌≡◌, ◌⊎◌, ◌++◌, List, length, ℤ, Some, None, slice_get}
use Rattle.ac_syntax.specs.declared.tree.Position.{Position}
use Rattle.ac_syntax.specs.declared.tree.Position.TheVariants.{Node}
use Rattle.ac_poly.specs.declared.types.Model.{Model}
use Rattle.ac_poly.specs.declared.types.StmtModel.{StmtModel}
use Rattle.ac_claims_paths.specs.InstanceCoordinates.{width}
use Rattle.ac_forms.specs.ListMembers.{IsAmong}
use Rattle.ac_claims_paths.specs.ModelPositions.{initial_of}
use Rattle.ac_flow.specs.Flows.{IsLeft}
use Rattle.ac_flow.specs.declared.types.Case.{Case}
use Rattle.ac_flow.specs.declared.types.Flow.{Flow}
use Rattle.ac_flow.specs.declared.types.ReadFlow.{ReadFlow}

-- by the case of the initial contents: to its initial position
pub record FollowsInitial (case : Case) (params : List ℤ) (from : Position) (at : List ℤ) (to : Position) (to_at : List ℤ) : Type 0 where
  pub source : case.source ≡ None
  pub to_is : to ≡ initial_of from
  pub at_is : at ≡ to_at
  pub left : IsLeft case.pieces (params ++ at)

-- by the case of an assignment: to the root of its value, at the coordinates of an instance
pub record FollowsSource (m : Model) (case : Case) (params : List ℤ) (from : Position) (at : List ℤ) (to : Position) (to_at : List ℤ) : Type 0 where
  pub number : ℕ
  pub stmt : StmtModel
  pub source : case.source ≡ Some number
  pub is : slice_get m.stmts number ≡ Some stmt
  pub to_is : to ≡ Node number 0
  pub long : length to_at ≡ width stmt
  pub left : IsLeft case.pieces (params ++ (at ++ to_at))

abbrev pub Follows : Model → Case → List ℤ → Position → List ℤ → Position → List ℤ → Type 0
Follows m case params from at to to_at = FollowsInitial case params from at to to_at ⊎ FollowsSource m case params from at to to_at

-- by one of some cases, and by the flow
abbrev pub FollowsIn : Model → List Case → List ℤ → Position → List ℤ → Position → List ℤ → Type 0
FollowsIn m cases params from at to to_at = (case : Case) × IsAmong case cases × Follows m case params from at to to_at

pub record LeadsTo (m : Model) (f : Flow) (params : List ℤ) (from : Position) (at : List ℤ) (to : Position) (to_at : List ℤ) : Type 0 where
  pub read : ReadFlow
  pub among : IsAmong read f.reads
  pub position : read.position ≡ from
  pub follows : FollowsIn m read.cases params from at to to_at
