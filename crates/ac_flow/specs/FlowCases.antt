-- The cases of a read or an output: the rows of each, and what is left of it where no copy has a point.
use Rattle.std.specs.Prelude.{ℕ, suc, ◌+◌, ◌≡◌, List, [], ◌∷◌, ◌++◌, map, Option, Some, None, slice_get}
use Rattle.ac_forms.specs.Rows.{AreRowsOver}
use Rattle.ac_forms.specs.declared.conj.Conj.{Conj}
use Rattle.ac_forms.specs.declared.row.Row.{Row}
use Rattle.ac_syntax.specs.declared.tree.Position.{Position}
use Rattle.ac_omega.specs.declared.piece.Piece.{Piece}
use Rattle.ac_poly.specs.declared.types.Model.{Model}
use Rattle.ac_poly.specs.declared.types.StmtModel.{StmtModel}
use Rattle.ac_flow.specs.CaseRemainder.{AreFound, AllKills, IsCut, IsWalkOf}
use Rattle.ac_claims.specs.declared.types.Kill.{Kill}
use Rattle.ac_claims_paths.specs.PathColumns.{all_of}
use Rattle.ac_claims_paths.specs.WellFormedPaths.{HasModuli}
use Rattle.ac_claims_paths.specs.PathSteps.{root}
use Rattle.ac_claims_paths.specs.CopyKills.{case_width}
use Rattle.ac_claims_paths.specs.declared.path.Assumed.{Assumed}
use Rattle.ac_claims_paths.specs.declared.path.CopyNumbers.{CopyNumbers}
use Rattle.ac_claims_paths.specs.declared.path.Seat.{Seat}
use Rattle.ac_flow.specs.Writings.{reading, over, conj_of, writings, copies}
use Rattle.ac_flow.specs.declared.cases.Reader.{Reader}
use Rattle.ac_flow.specs.declared.types.Case.{Case}
use Rattle.ac_flow.specs.declared.types.Remainder.{Remainder}

-- ---- the kills of a case

-- a kill of what is assumed, over so many columns
abbrev pub kill_of : ℕ → CopyNumbers → Piece → Conj × Kill
kill_of columns w x = (over columns x.rest.rows, record { stmt = w.stmt; piece = w.piece; after = w.after; before = w.before; choices = x.choices })

-- those of each writing, in order
abbrev pub kills_of : ℕ → List CopyNumbers → List (List Piece) → List (Conj × Kill)
kills_of columns [] ks = []
kills_of columns (w ∷ ws) [] = []
kills_of columns (w ∷ ws) (k ∷ ks) = map (kill_of columns w) k ++ kills_of columns ws ks

-- ---- the rows of a case

-- the context, a piece of the reader, and the rows of the source, if one is assumed
abbrev pub case_conj : Model → ℕ → List Row → List Row → Conj
case_conj m columns rows piece = over columns (m.context ++ (piece ++ rows))

abbrev pub remainder : ℕ → Conj → Remainder
remainder d c = record { reader = d; conj = c }

abbrev pub conj_of_remainder : Remainder → Conj
conj_of_remainder r = r.conj

-- what is left of the case in the pieces of the reader, from the one with the number d on
abbrev pub AreParts : Model → ℕ → List Row → List (List Piece) → ℕ → List (List Row) → List Remainder → Type 0
AreParts m columns rows kills d [] rs = rs ≡ []
AreParts m columns rows kills d (q ∷ qs) rs =
    (group : List Conj) × (rest : List Remainder) × (rs ≡ map (remainder d) group ++ rest) × IsCut (case_conj m columns rows q) kills group × AreParts m columns rows kills (suc d) qs rest

-- the rows of each piece are over so many columns
abbrev pub ArePiecesOver : ℕ → List (List Row) → Type 0
ArePiecesOver columns [] = Unit {0}
ArePiecesOver columns (q ∷ qs) = AreRowsOver columns q × ArePiecesOver columns qs

-- what is found for the copy of a writing
pub record IsFoundFor (budget : ℕ) (m : Model) (a : Assumed) (w : CopyNumbers) (found : List Piece) : Type 0 where
  pub copy : Conj
  pub made : conj_of m a w ≡ Some copy
  pub kills : AreFound (case_width m.params a) copy found
  pub walk : IsWalkOf budget (case_width m.params a) copy found

-- the same for each of several
abbrev pub AllFound : ℕ → Model → Assumed → List CopyNumbers → List (List Piece) → Type 0
AllFound budget m a [] [] = Unit {0}
AllFound budget m a [] (k ∷ ks) = ⊥
AllFound budget m a (w ∷ ws) [] = ⊥
AllFound budget m a (w ∷ ws) (k ∷ ks) = IsFoundFor budget m a w k × AllFound budget m a ws ks

-- ---- a case

-- a read or an output: its position, the array that it reads, the number of its coordinates and its pieces
pub record Reads : Type 0 where
  pub position : Position
  pub array : ℕ
  pub count : ℕ
  pub pieces : List (List Row)

-- as the code has it
abbrev pub seen : Reader → Reads
seen r = record { position = r.position; array = r.array; count = r.count; pieces = r.pieces.now }

-- the model and the reader's pieces are over their own columns, and each modulus is at least 1
pub record CanRead (m : Model) (r : Reads) : Type 0 where
  pub moduli : HasModuli m
  pub context : AreRowsOver m.params m.context
  pub pieces : ArePiecesOver (m.params + r.count) r.pieces

-- a case of what is assumed, over so many columns, with the rows of the source: what is left of it in each piece of the
-- reader, and its kills, which are what the walk of each copy at some budget finds
pub record IsCaseOf (m : Model) (r : Reads) (source : Option Seat) (columns : ℕ) (rows : List Row) (left : List Remainder) (kills : List (Conj × Kill)) : Type 0 where
  pub all : List Conj
  pub made : all_of (copies m (reading m r.position r.count source) r.array) ≡ Some all
  pub found : List (List Piece)
  pub killed : AllKills columns all found
  pub budget : ℕ
  pub walked : AllFound budget m (reading m r.position r.count source) (writings m r.position r.array source) found
  pub parts : AreParts m columns rows found 0 r.pieces left
  pub are : kills ≡ kills_of columns (writings m r.position r.array source) found

-- the case of a writing
pub record IsSourceCase (m : Model) (r : Reads) (w : CopyNumbers) (case : Case) : Type 0 where
  pub source : case.source ≡ Some w.stmt
  pub piece : case.piece ≡ w.piece
  pub level : case.level ≡ w.before
  pub stmt : StmtModel
  pub is : slice_get m.stmts w.stmt ≡ Some stmt
  pub own : Conj
  pub formed : conj_of m (reading m r.position r.count None) w ≡ Some own
  pub case_of : IsCaseOf m r (Some (root (m.params + r.count) w.stmt stmt)) own.columns own.rows case.pieces case.kills

-- the case of the initial contents
pub record IsInitialCase (m : Model) (r : Reads) (case : Case) : Type 0 where
  pub source : case.source ≡ None
  pub piece : case.piece ≡ 0
  pub level : case.level ≡ 0
  pub case_of : IsCaseOf m r None (m.params + r.count) [] case.pieces case.kills

-- what is left of a case
abbrev pub conjs_of : Case → List Conj
conjs_of c = map conj_of_remainder c.pieces

-- one case for each writing, then that of the initial contents
abbrev pub AreCases : Model → Reads → List CopyNumbers → List Case → Type 0
AreCases m r [] [] = ⊥
AreCases m r [] (c ∷ []) = IsInitialCase m r c
AreCases m r [] (c ∷ d ∷ cs) = ⊥
AreCases m r (w ∷ ws) [] = ⊥
AreCases m r (w ∷ ws) (c ∷ cs) = IsSourceCase m r w c × AreCases m r ws cs
