-- The pieces that are left of a copy where its further columns are eliminated.
use Rattle.std.specs.Prelude.{◌≡◌, ◌↔◌, ℕ, ◌-◌, ℤ, List, length}
use Rattle.std.specs.List.{range_with_len}
use Rattle.ac_forms.specs.declared.conj.Conj.{Conj}
use Rattle.ac_omega.specs.declared.piece.Piece.{Piece}
use Rattle.ac_forms.specs.Negation.{HasExtension}
use Rattle.ac_forms.specs.PieceMembership.{IsInSome}
use Rattle.ac_omega.specs.Projection.{MeetsRest}

-- the columns from the first one on
abbrev pub columns_from : ℕ → Conj → List ℕ
columns_from first c = range_with_len first (c.columns - first)

-- with some numbers for the further columns the copy has a point exactly where one of the pieces holds
abbrev pub AreProjection : ℕ → Conj → List Piece → Type 0
AreProjection first copy pieces = (p : List ℤ) → length p ≡ first → HasExtension copy p ↔ IsInSome MeetsRest pieces p
