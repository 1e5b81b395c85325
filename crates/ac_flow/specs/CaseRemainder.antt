-- What is left of a case where no copy has a point, and the kills that cover the rest.
use Rattle.std.specs.Prelude.{◌≡◌, ◌⊎◌, ◌↔◌, ℕ, ℤ, List, [], ◌∷◌, length}
use Rattle.std.specs.List.{Contains}
use Rattle.ac_forms.specs.Negation.{HasExtension}
use Rattle.ac_forms.specs.PieceMembership.{IsInSome}
use Rattle.ac_forms.specs.Rows.{Meets}
use Rattle.ac_forms.specs.declared.conj.Conj.{Conj}
use Rattle.ac_sets.specs.Unions.{ArePieces}
use Rattle.ac_omega.specs.declared.piece.Piece.{Piece}
use Rattle.ac_flow.specs.Cuts.{AllHavePoints, NoneMeet}
use Rattle.ac_omega.specs.Replays.{AreReached, AreOver}
use Rattle.ac_flow.specs.CopyProjection.{columns_from, AreProjection}
use Rattle.ac_forms.specs.declared.row.Row.{Row}
use Rattle.ac_omega.specs.EliminationAnswers.{parts, saturated}
use Rattle.ac_omega.specs.Either.{StopsEliminating}
use Rattle.ac_omega.specs.ColumnElimination.{pieces_of}
use Rattle.ac_omega_certify.specs.declared.strategy.Strategy.{Strategy}
use Rattle.ac_omega_certify.specs.declared.strategy.Strategy.TheVariants.{Full as Fully, Economical}
use Rattle.ac_omega.specs.Sweep.{Pieces, Wide, Spent as Costly}
use Rattle.ac_flow.specs.CutStops.{AreCutCases}
use Rattle.ac_flow.specs.declared.cut.CutStop.{CutStop}
use Rattle.ac_flow.specs.declared.cut.CutStop.TheVariants.{Overflow, Spent, Full, Memory}
use Rattle.ac_omega.specs.Projection.{MeetsRest}

-- what is found for one copy
pub record AreFound (first : ℕ) (copy : Conj) (found : List Piece) : Type 0 where
  pub kills : AreReached (columns_from first copy) copy found
  pub over : AreOver first found
  pub projection : AreProjection first copy found

-- for each copy its kills
abbrev pub AllKills : ℕ → List Conj → List (List Piece) → Type 0
AllKills first [] [] = Unit {0}
AllKills first [] (k ∷ ks) = ⊥
AllKills first (c ∷ cs) [] = ⊥
AllKills first (c ∷ cs) (k ∷ ks) = AreFound first c k × AllKills first cs ks

-- the rows of each are over that many columns
abbrev pub AllOver : ℕ → List (List Piece) → Type 0
AllOver n [] = Unit {0}
AllOver n (k ∷ ks) = AreOver n k × AllOver n ks

-- the pieces so far: those points of the first ones at which none of the kills holds
pub record IsLeftBy (n : ℕ) (pieces : List Conj) (found : List Piece) (kept : List Conj) : Type 0 where
  pub made : ArePieces n kept
  pub points : (p : List ℤ) → length p ≡ n → IsInSome HasExtension kept p ↔ (IsInSome HasExtension pieces p × ¬ IsInSome MeetsRest found p)
  pub each : AllHavePoints pieces → AllHavePoints kept

-- the case, if it has a point
pub record IsStart (case : Conj) (pieces : List Conj) : Type 0 where
  pub made : ArePieces case.columns pieces
  pub points : (p : List ℤ) → length p ≡ case.columns → IsInSome HasExtension pieces p ↔ Meets case.rows p
  pub each : AllHavePoints pieces
  pub asked : (kills : List (List Row)) → AreCutCases case kills pieces
  pub apart : NoneMeet case.columns pieces

-- the rows of each are one of the kill pieces
abbrev pub AreKillsOf : List (List Row) → List Piece → Type 0
AreKillsOf kills [] = Unit {0}
AreKillsOf kills (x ∷ xs) = Contains kills x.rest.rows × AreKillsOf kills xs

abbrev pub AllKillsOf : List (List Row) → List (List Piece) → Type 0
AllKillsOf kills [] = Unit {0}
AllKillsOf kills (k ∷ ks) = AreKillsOf kills k × AllKillsOf kills ks

-- they are what is left where a copy's further columns are eliminated by a strategy
abbrev pub AreLeftBy : Strategy → ℕ → ℕ → Conj → List Piece → Type 0
AreLeftBy s budget first copy found = (cost : ℕ) × (pieces_of s (columns_from first copy) budget copy ≡ Pieces (parts found) cost)

-- by the economical one, or where that stops by the full one
abbrev pub IsWalkOf : ℕ → ℕ → Conj → List Piece → Type 0
IsWalkOf budget first copy found =
    AreLeftBy Economical budget first copy found ⊎ (StopsEliminating (pieces_of Economical (columns_from first copy) budget copy) × AreLeftBy Fully budget first copy found)

-- what is left of a case outside kill pieces: its points at which none of them holds. No two of the pieces have a point in
-- common, and each has one. Each is a cut case
pub record IsCut (case : Conj) (kills : List (List Piece)) (pieces : List Conj) : Type 0 where
  pub made : ArePieces case.columns pieces
  pub points : (p : List ℤ) → length p ≡ case.columns → IsInSome HasExtension pieces p ↔ (Meets case.rows p × ¬ IsInSome (IsInSome MeetsRest) kills p)
  pub each : AllHavePoints pieces
  pub apart : NoneMeet case.columns pieces
  pub asked : (rows : List (List Row)) → AllKillsOf rows kills → AreCutCases case rows pieces
  pub cover : (p : List ℤ) → length p ≡ case.columns → Meets case.rows p → IsInSome HasExtension pieces p ⊎ IsInSome (IsInSome MeetsRest) kills p

-- the elimination of a copy stops: the economical one, and so does the full one
abbrev pub CopyStops : ℕ → ℕ → Conj → CutStop → Type 0
CopyStops budget first copy (Overflow c) =
    (c ≡ copy) × StopsEliminating (pieces_of Economical (columns_from first copy) budget copy) × (pieces_of Fully (columns_from first copy) budget copy ≡ Wide)
CopyStops budget first copy (Spent c k) =
    (c ≡ copy) × StopsEliminating (pieces_of Economical (columns_from first copy) budget copy) × (j : ℕ) × (pieces_of Fully (columns_from first copy) budget copy ≡ Costly j) × (k ≡ saturated j)
CopyStops budget first copy Full = ⊥
CopyStops budget first copy (Memory e) = Unit {0}
