-- What a branch of a read or an output assumes, against the case of a flow.
use Rattle.std.specs.Prelude.{◌≡◌, ℕ, true, List, length, Option, Some, None, option_map, slice_get}
use Rattle.ac_forms.specs.Affine.{Affine}
use Rattle.ac_syntax.specs.declared.tree.Position.{Position}
use Rattle.ac_syntax.specs.declared.tree.Position.TheVariants.{Output, Node, InitialOutput, InitialNode}
use Rattle.ac_poly.specs.declared.types.Model.{Model}
use Rattle.ac_poly.specs.declared.types.StmtModel.{StmtModel}
use Rattle.ac_claims_paths.specs.InstanceCoordinates.{width}
use Rattle.ac_claims_paths.specs.declared.path.Assumed.{Assumed}
use Rattle.ac_claims_paths.specs.declared.path.Seat.{Seat}
use Rattle.ac_claims_paths.specs.declared.path.Side.{Side}
use Rattle.ac_claims.specs.ProofEnds.{same_position}
use Rattle.ac_flow.specs.declared.types.Case.{Case}
use Rattle.ac_flow.specs.declared.types.ReadFlow.{ReadFlow}

-- how many coordinates a read or an output has
abbrev pub count_at : Model → Position → Option ℕ
count_at m (Output o) = option_map (λ (extents : List Affine). length extents) (slice_get m.extents o)
count_at m (Node s k) = option_map width (slice_get m.stmts s)
count_at m (InitialOutput o) = None
count_at m (InitialNode s k) = None

-- the seat is that of the root of an assignment
pub record IsRootOf (m : Model) (u : ℕ) (seat : Seat) : Type 0 where
  pub position : seat.position ≡ Node u 0
  pub stmt : StmtModel
  pub is : slice_get m.stmts u ≡ Some stmt
  pub wide : seat.width ≡ width stmt

-- the root of the source is assumed, or the initial contents are where there is none
abbrev pub AssumesSource : Model → Option ℕ → Option Seat → Type 0
AssumesSource m None None = Unit {0}
AssumesSource m (Some u) (Some seat) = IsRootOf m u seat
AssumesSource m _ _ = ⊥

-- the source of a case of a flow is assumed for its read or output, on a side
pub record AssumesCase (params : ℕ) (m : Model) (side : Side) (flow : ReadFlow) (case : Case) (a : Assumed) : Type 0 where
  pub parameters : params ≡ m.params
  pub on : a.side ≡ side
  pub position : same_position a.reader.position flow.position ≡ true
  pub count : count_at m flow.position ≡ Some a.reader.width
  pub source : AssumesSource m case.source a.source
