-- Why there is no flow: which question stops it.
use Rattle.std.specs.Prelude.{ℕ, ◌+◌, ◌≡◌, ◌⊎◌, List, [], ◌∷◌, ◌++◌, Option, Some, None, option_and_then, unwrap_or, slice_get}
use Rattle.std.specs.List.{Contains}
use Rattle.ac_forms.specs.Renaming.{rows_renaming}
use Rattle.ac_forms.specs.declared.conj.Conj.{Conj}
use Rattle.ac_forms.specs.declared.row.Row.{Row}
use Rattle.ac_omega.specs.declared.piece.Piece.{Piece}
use Rattle.ac_poly.specs.declared.types.Model.{Model}
use Rattle.ac_poly.specs.declared.types.StmtModel.{StmtModel}
use Rattle.ac_flow.specs.CutStops.{CutStops}
use Rattle.ac_flow.specs.CaseRemainder.{IsWalkOf, CopyStops}
use Rattle.ac_flow.specs.declared.cut.CutStop.{CutStop}
use Rattle.ac_flow.specs.declared.cut.CutStop.TheVariants.{Overflow, Spent, Full, Memory}
use Rattle.ac_claims_paths.specs.PathColumns.{base, columns_of}
use Rattle.ac_claims_paths.specs.InstanceCoordinates.{width}
use Rattle.ac_claims_paths.specs.PathSteps.{root}
use Rattle.ac_claims_paths.specs.CopyKills.{case_width}
use Rattle.ac_forms.specs.ListMembers.{IsAmong}
use Rattle.ac_claims_paths.specs.declared.path.Assumed.{Assumed}
use Rattle.ac_claims_paths.specs.declared.path.CopyNumbers.{CopyNumbers}
use Rattle.ac_claims_paths.specs.declared.path.Seat.{Seat}
use Rattle.ac_flow.specs.Writings.{reading, over, conj_of, writings}
use Rattle.ac_flow.specs.FlowCases.{Reads, case_conj}

-- the rows of a writing's piece, over the columns of what is assumed and its own
abbrev pub piece_rows : Model → Assumed → CopyNumbers → StmtModel → Option (List Row)
piece_rows m a w stmt = option_and_then (rows_renaming (base m.params ++ columns_of (root (case_width m.params a) w.stmt stmt))) (slice_get stmt.pieces w.piece)

abbrev pub front_by : Model → Assumed → CopyNumbers → Option StmtModel → Conj
front_by m a w None = over (case_width m.params a) []
front_by m a w (Some stmt) = over (case_width m.params a + width stmt) (unwrap_or (piece_rows m a w stmt) [])

-- what is shown of a writing whose rows cannot be formed in `i128`: the rows of its piece
abbrev pub front : Model → Assumed → CopyNumbers → Conj
front m a w = front_by m a w (slice_get m.stmts w.stmt)

-- a writing cannot be formed
abbrev pub UnformedStops : Model → Assumed → CopyNumbers → CutStop → Type 0
UnformedStops m a w (Overflow q) = (conj_of m a w ≡ None) × (q ≡ front m a w)
UnformedStops m a w (Spent q k) = ⊥
UnformedStops m a w Full = ⊥
UnformedStops m a w (Memory e) = Unit {0}

-- the elimination of a writing's copy stops
pub record CopyOfStops (budget : ℕ) (m : Model) (a : Assumed) (w : CopyNumbers) (e : CutStop) : Type 0 where
  pub copy : Conj
  pub made : conj_of m a w ≡ Some copy
  pub stops : CopyStops budget (case_width m.params a) copy e

-- what kills a case cannot be found: a copy cannot be formed, or its elimination stops
pub record KillsStop (budget : ℕ) (m : Model) (a : Assumed) (ws : List CopyNumbers) (e : CutStop) : Type 0 where
  pub writing : CopyNumbers
  pub among : IsAmong writing ws
  pub stops : UnformedStops m a writing e ⊎ CopyOfStops budget m a writing e

-- a kill piece of what is assumed: it is left where the columns of a copy are eliminated
pub record IsKillPiece (budget : ℕ) (m : Model) (a : Assumed) (ws : List CopyNumbers) (kill : List Row) : Type 0 where
  pub writing : CopyNumbers
  pub among : IsAmong writing ws
  pub copy : Conj
  pub made : conj_of m a writing ≡ Some copy
  pub pieces : List Piece
  pub walk : IsWalkOf budget (case_width m.params a) copy pieces
  pub piece : Piece
  pub found : Contains pieces piece
  pub rows : kill ≡ piece.rest.rows

abbrev pub AreKillPieces : ℕ → Model → Assumed → List CopyNumbers → List (List Row) → Type 0
AreKillPieces budget m a ws [] = Unit {0}
AreKillPieces budget m a ws (k ∷ ks) = IsKillPiece budget m a ws k × AreKillPieces budget m a ws ks

-- the cutting of a case in a piece of the reader by kill pieces stops
pub record PieceStops (budget : ℕ) (m : Model) (columns : ℕ) (rows : List Row) (pieces : List (List Row)) (kills : List (List Row)) (e : CutStop) : Type 0 where
  pub piece : List Row
  pub among : IsAmong piece pieces
  pub stops : CutStops budget (case_conj m columns rows piece) kills e

pub record CutCaseStops (budget : ℕ) (m : Model) (a : Assumed) (ws : List CopyNumbers) (columns : ℕ) (rows : List Row) (pieces : List (List Row)) (e : CutStop) : Type 0 where
  pub kills : List (List Row)
  pub found : AreKillPieces budget m a ws kills
  pub stops : PieceStops budget m columns rows pieces kills e

-- a fact for each stop but want of memory, which may come at any time
abbrev pub UnlessMemory : CutStop → Type 0 → Type 0
UnlessMemory (Overflow q) P = P
UnlessMemory (Spent q k) P = P
UnlessMemory Full P = P
UnlessMemory (Memory e) P = Unit {0}

-- a case stops: what kills it is not found, or a cut case stops
abbrev pub CaseStops : ℕ → Model → Reads → Option Seat → ℕ → List Row → CutStop → Type 0
CaseStops budget m r source columns rows e = UnlessMemory e (
    KillsStop budget m (reading m r.position r.count source) (writings m r.position r.array source) e
    ⊎ CutCaseStops budget m (reading m r.position r.count source) (writings m r.position r.array source) columns rows r.pieces e)

-- the case of a writing stops, or its rows cannot be formed
abbrev pub SourceStops : ℕ → Model → Reads → CopyNumbers → CutStop → Type 0
SourceStops budget m r w e =
    UnformedStops m (reading m r.position r.count None) w e
    ⊎ ((stmt : StmtModel) × (own : Conj) × (slice_get m.stmts w.stmt ≡ Some stmt) × (conj_of m (reading m r.position r.count None) w ≡ Some own) × CaseStops budget m r (Some (root (m.params + r.count) w.stmt stmt)) own.columns own.rows e)

-- the case of a writing before the reader stops, or that of the initial contents
abbrev pub ReadStops : ℕ → Model → Reads → CutStop → Type 0
ReadStops budget m r e = UnlessMemory e (
    ((w : CopyNumbers) × IsAmong w (writings m r.position r.array None) × SourceStops budget m r w e) ⊎ CaseStops budget m r None (m.params + r.count) [] e)
