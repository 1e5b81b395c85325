-- Models of differences: each row is a difference of two columns, of a column and 0, or 0, plus a number, and each subscript and
-- extent is a column plus a number, or a number.
use Rattle.std.specs.Prelude.{◌≡◌, ℕ, ◌≤◌, ℤ, true, unsigned_abs, List, length, Option, Some, slice_get}
use Rattle.std.specs.List.{AllByRecursion}
use Rattle.ac_forms.specs.Affine.{Affine, coef}
use Rattle.ac_omega.specs.DifferenceRows.{one_in, AreDifferences}
use Rattle.ac_poly.specs.Coordinates.{width}
use Rattle.ac_poly.specs.Model.{is_input}
use Rattle.ac_poly.specs.declared.types.Model.{Model}
use Rattle.ac_poly.specs.declared.types.NodeModel.{NodeModel}
use Rattle.ac_poly.specs.declared.types.NodeModel.TheVariants.{Number, Read, Call}
use Rattle.ac_poly.specs.declared.types.StmtModel.{StmtModel}
use Rattle.ac_flow.specs.declared.types.ContextStop.{ContextStop}
use Rattle.ac_flow.specs.declared.types.ContextStop.TheVariants as context
use Rattle.ac_flow.specs.declared.types.FlowStop.{FlowStop}
use Rattle.ac_flow.specs.declared.types.FlowStop.TheVariants as flow

-- a column plus a number from -b to b, or such a number alone
pub record IsShifted (b : ℕ) (f : Affine) : Type 0 where
  pub column : Option ℕ
  pub is : (j : ℕ) → coef j f ≡ one_in column j
  pub small : unsigned_abs f.konst ≤ b

abbrev pub AreShifted : ℕ → List Affine → Type 0
AreShifted b fs = AllByRecursion (IsShifted b) fs

-- each number of a form is from -b to b
abbrev pub IsFormWithin : ℕ → Affine → Type 0
IsFormWithin b f = (unsigned_abs f.konst ≤ b) × AllByRecursion (λ (c : ℤ). unsigned_abs c ≤ b) f.coefs

-- the subscripts of a read are columns plus numbers
abbrev pub ReadsShifted : ℕ → NodeModel → Type 0
ReadsShifted b (Number f) = Unit {0}
ReadsShifted b (Read array subs) = AreShifted b subs
ReadsShifted b (Call symbol args) = Unit {0}

-- an assignment with at most 6 loops and quotients
pub record StmtHasDifferences (b : ℕ) (stmt : StmtModel) : Type 0 where
  pub loops : width stmt ≤ 6
  pub pieces : AllByRecursion (AreDifferences b) stmt.pieces
  pub subs : AreShifted b stmt.subs
  pub reads : AllByRecursion (ReadsShifted b) stmt.nodes

-- a program over at most 4 parameters, and inputs of at most 6 dimensions; the extents of other arrays have numbers from -b to b
pub record HasDifferences (b : ℕ) (m : Model) : Type 0 where
  pub params : m.params ≤ 4
  pub context : AreDifferences b m.context
  pub stmts : (number : ℕ) (stmt : StmtModel) → slice_get m.stmts number ≡ Some stmt → StmtHasDifferences b stmt
  pub inputs : (array : ℕ) (extents : List Affine) → slice_get m.extents array ≡ Some extents → is_input (slice_get m.kinds array) ≡ true → (length extents ≤ 6) × AreShifted b extents
  pub extents : (array : ℕ) (extents : List Affine) → slice_get m.extents array ≡ Some extents → AllByRecursion (IsFormWithin b) extents

-- a flow that isn't stopped by a question: there are too many pieces, or there is no memory
abbrev pub StopsByNoQuestion : FlowStop → Type 0
StopsByNoQuestion (flow.Overflow q) = ⊥
StopsByNoQuestion (flow.Spent q k) = ⊥
StopsByNoQuestion (flow.Pieces position kept) = Unit {0}
StopsByNoQuestion (flow.Memory e) = Unit {0}

-- a context whose question is answered: it is empty, or there is no memory
abbrev pub IsAnswered : ContextStop → Type 0
IsAnswered context.EmptyContext = Unit {0}
IsAnswered (context.Overflow q) = ⊥
IsAnswered (context.Spent q k) = ⊥
IsAnswered (context.Memory e) = Unit {0}
