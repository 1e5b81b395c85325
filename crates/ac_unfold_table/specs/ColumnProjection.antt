-- What is left of a conjunction on its first columns.
use Rattle.std.specs.Prelude.{◌≡◌, ◌↔◌, ℕ, ℤ, List, length}
use Rattle.ac_forms.specs.Negation.{HasExtension}
use Rattle.ac_forms.specs.Rows.{Meets}
use Rattle.ac_forms.specs.declared.conj.Conj.{Conj}
use Rattle.ac_forms.specs.declared.row.Row.{Row}
use Rattle.ac_omega.specs.declared.piece.Piece.{Piece}
use Rattle.ac_flow.specs.CaseRemainder.{AreFound, IsWalkOf}

-- pieces are left of it
pub record AreLeftOn (budget first : ℕ) (c : Conj) (pieces : List Piece) : Type 0 where
  pub found : AreFound first c pieces
  pub walk : IsWalkOf budget first c pieces

-- rows are left of it: a point of the first columns meets them exactly where with some numbers for the others it is one of the conjunction; and there is one
pub record IsLeftOn (first : ℕ) (c : Conj) (rows : List Row) : Type 0 where
  pub points : (x : List ℤ) → length x ≡ first → HasExtension c x ↔ Meets rows x
  pub point : (x : List ℤ) × Meets rows x
