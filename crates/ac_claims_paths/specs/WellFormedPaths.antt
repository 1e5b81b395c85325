-- Paths whose columns are there and whose rows are well made.
use Rattle.std.specs.Prelude.{ℕ, ◌≡◌, ◌+◌, ◌≤◌, List, [], ◌∷◌, Option, Some, None, slice_get}
use Rattle.ac_forms.specs.Rows.{HaveModuli, IsWellMade}
use Rattle.ac_forms.specs.declared.row.Row.{Row}
use Rattle.ac_poly.specs.declared.types.Model.{Model}
use Rattle.ac_poly.specs.declared.types.StmtModel.{StmtModel}
use Rattle.ac_claims_paths.specs.InstanceCoordinates.{levels_before}
use Rattle.ac_claims_paths.specs.declared.path.Assumed.{Assumed}
use Rattle.ac_claims_paths.specs.declared.path.Path.{Path}
use Rattle.ac_claims_paths.specs.declared.path.Seat.{Seat}

abbrev pub SeatIn : Seat → ℕ → Type 0
SeatIn seat n = seat.first + seat.width ≤ n

abbrev pub SourceIn : Option Seat → ℕ → Type 0
SourceIn None n = Unit {0}
SourceIn (Some seat) n = SeatIn seat n

abbrev pub LastIn : Option Assumed → ℕ → Type 0
LastIn None n = Unit {0}
LastIn (Some a) n = SeatIn a.reader n × SourceIn a.source n

pub record IsFormed (params : ℕ) (h : Path) : Type 0 where
  pub made : IsWellMade h.conj
  pub base_in : params ≤ h.conj.columns
  pub left_in : SeatIn h.left h.conj.columns
  pub right_in : SeatIn h.right h.conj.columns
  pub last_in : LastIn h.last h.conj.columns

abbrev pub AllFormed : ℕ → List Path → Type 0
AllFormed params [] = Unit {0}
AllFormed params (h ∷ hs) = IsFormed params h × AllFormed params hs

-- so are the paths, where there are any
abbrev pub AreFormedIf : ℕ → Option (List Path) → Type 0
AreFormedIf params None = Unit {0}
AreFormedIf params (Some hs) = AllFormed params hs

-- each modulus in a model's pieces and levels is at least 1
pub record HasModuli (m : Model) : Type 0 where
  pub pieces : (number : ℕ) (stmt : StmtModel) (k : ℕ) (rows : List Row) → slice_get m.stmts number ≡ Some stmt → slice_get stmt.pieces k ≡ Some rows → HaveModuli rows
  pub levels : (u : ℕ) (first : StmtModel) (s : ℕ) (second : StmtModel) (k : ℕ) (rows : List Row) → slice_get (levels_before m.params u first s second) k ≡ Some rows → HaveModuli rows
