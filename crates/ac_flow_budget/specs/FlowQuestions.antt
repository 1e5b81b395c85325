-- The questions of a flow, and which of them are small.
use Rattle.std.specs.Prelude.{◌≡◌, ℕ, ◌+◌, ◌^◌, List, [], Option, Some, None, slice_get}
use Rattle.ac_forms.specs.Rows.{AreRowsOver}
use Rattle.ac_forms.specs.declared.conj.Conj.{Conj}
use Rattle.ac_forms.specs.declared.row.Row.{Row}
use Rattle.ac_flow.specs.CutStops.{IsCutQuestion}
use Rattle.ac_omega.specs.DifferenceRows.{AreDifferences}
use Rattle.ac_poly.specs.declared.types.Model.{Model}
use Rattle.ac_poly.specs.declared.types.StmtModel.{StmtModel}
use Rattle.ac_claims_paths.specs.PathSteps.{root}
use Rattle.ac_forms.specs.ListMembers.{IsAmong}
use Rattle.ac_claims_paths.specs.declared.path.CopyNumbers.{CopyNumbers}
use Rattle.ac_claims_paths.specs.declared.path.Seat.{Seat}
use Rattle.ac_flow.specs.FlowCases.{Reads, case_conj}
use Rattle.ac_flow.specs.Readers.{readers}
use Rattle.ac_flow.specs.FlowStops.{AreKillPieces}
use Rattle.ac_flow.specs.Writings.{reading, over, conj_of, writings}

-- a case of a reader, by the source that is assumed and its rows over its columns: the initial contents, or a writing before the
-- reader
pub data IsCase (m : Model) (r : Reads) : Option Seat → Conj → Type 0 where
  Initial : IsCase m r None (over (m.params + r.count) [])
  OfWriting : (w : CopyNumbers) (stmt : StmtModel) (own : Conj) → IsAmong w (writings m r.position r.array None) → slice_get m.stmts w.stmt ≡ Some stmt → conj_of m (reading m r.position r.count None) w ≡ Some own
      → IsCase m r (Some (root (m.params + r.count) w.stmt stmt)) own

-- the context; a copy of a case; or a question of the cutting of a case, in a piece of the reader, by its kill pieces
pub data IsQuestion (budget : ℕ) (m : Model) : Conj → Type 0 where
  OfContext : IsQuestion budget m (over m.params m.context)
  OfCopy : (r : Reads) (source : Option Seat) (own : Conj) (w : CopyNumbers) (q : Conj) → IsAmong r (readers m) → IsCase m r source own → IsAmong w (writings m r.position r.array source)
      → conj_of m (reading m r.position r.count source) w ≡ Some q → IsQuestion budget m q
  OfCut : (r : Reads) (source : Option Seat) (own : Conj) (piece : List Row) (kills : List (List Row)) (q : Conj) → IsAmong r (readers m) → IsCase m r source own → IsAmong piece r.pieces
      → AreKillPieces budget m (reading m r.position r.count source) (writings m r.position r.array source) kills → IsCutQuestion (case_conj m own.columns own.rows piece) kills q → IsQuestion budget m q

-- its rows are differences in the first 22 columns, with numbers of at most 2^48
pub record IsSmallQuestion (q : Conj) : Type 0 where
  pub over : AreRowsOver 22 q.rows
  pub differences : AreDifferences (2 ^ 48) q.rows
