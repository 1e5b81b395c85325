-- The projection of a conjunction: the points from which one of its points differs in some columns only.
use Rattle.std.specs.Prelude.{◌≡◌, ℕ, Bool, false, nat_eq, ℤ, pos, List, [], ◌∷◌, length, slice_index_or}
use Rattle.std.specs.List.{list_any}
use Rattle.ac_forms.specs.Rows.{Meets}
use Rattle.ac_forms.specs.declared.row.Row.{Row}
use Rattle.ac_omega.specs.declared.piece.Piece.{Piece}
use Rattle.ac_forms.specs.RowColumns.{is_present}

-- the number is one of the numbers
abbrev pub is_among : ℕ → List ℕ → Bool
is_among z zs = list_any (nat_eq z) zs

-- the point q is p but for the numbers of these columns
pub record DiffersIn (vars : List ℕ) (p q : List ℤ) : Type 0 where
  pub long : length q ≡ length p
  pub same : (j : ℕ) → is_among j vars ≡ false → slice_index_or q j (pos 0) ≡ slice_index_or p j (pos 0)

-- integers for the columns exist at which the rows hold with the other numbers of p
pub record HoldsFor (vars : List ℕ) (rows : List Row) (p : List ℤ) : Type 0 where
  pub at : List ℤ
  pub differs : DiffersIn vars p at
  pub meets : Meets rows at

-- the rows that are left of the piece hold at the point
abbrev pub MeetsRest : Piece → List ℤ → Type 0
MeetsRest x p = Meets x.rest.rows p

-- no row of the pieces has one of the columns
abbrev pub HaveNone : List ℕ → List Row → Type 0
HaveNone [] rows = Unit {0}
HaveNone (z ∷ zs) rows = (is_present z rows ≡ false) × HaveNone zs rows

abbrev pub AllEmpty : List ℕ → List Piece → Type 0
AllEmpty vars [] = Unit {0}
AllEmpty vars (x ∷ xs) = HaveNone vars x.rest.rows × AllEmpty vars xs
