-- What is left of a case outside its copies.
use Rattle.std.specs.Prelude.{◌≡◌, ◌⊎◌, ◌↔◌, ℤ, List, length}
use Rattle.ac_forms.specs.Negation.{HasExtension}
use Rattle.ac_forms.specs.PieceMembership.{IsInSome, IsInNone}
use Rattle.ac_forms.specs.Rows.{Meets}
use Rattle.ac_forms.specs.declared.conj.Conj.{Conj}
use Rattle.ac_sets.specs.Unions.{ArePieces}
use Rattle.ac_omega.specs.declared.piece.Piece.{Piece}
use Rattle.ac_flow.specs.Cuts.{AllHavePoints, NoneMeet}
use Rattle.ac_omega.specs.Projection.{MeetsRest}
use Rattle.ac_flow.specs.CaseRemainder.{AllKills}

-- of a case outside its copies: the pieces are the points at which no copy has a point, each piece has a point, and each
-- point of the case lies in a piece or meets what a kill leaves
pub record IsRemaining (case : Conj) (copies pieces : List Conj) (kills : List (List Piece)) : Type 0 where
  pub made : ArePieces case.columns pieces
  pub points : (p : List ℤ) → length p ≡ case.columns → IsInSome HasExtension pieces p ↔ (Meets case.rows p × IsInNone HasExtension copies p)
  pub each : AllHavePoints pieces
  pub apart : NoneMeet case.columns pieces
  pub killed : AllKills case.columns copies kills
  pub cover : (p : List ℤ) → length p ≡ case.columns → Meets case.rows p → IsInSome HasExtension pieces p ⊎ IsInSome (IsInSome MeetsRest) kills p
