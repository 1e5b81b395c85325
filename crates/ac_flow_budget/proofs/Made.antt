-- The copies of a case of differences are made, and their rows are differences over at most 22 columns.
use Rattle.std.proofs.Common.{◌≡◌, ℕ, ◌+◌, ◌≤◌, ◌^◌, lit<, lit≤, nat_eq, List, ◌++◌, length, Option, Some, None, true, arith, refl, sym, ◌∙◌, subst, eq-eqb}
use Rattle.std.specs.Prelude.{slice_get}
use Rattle.ac_forms.specs.Rows.{AreRowsOver}
use Rattle.ac_forms.specs.declared.row.Row.{Row}
use Rattle.ac_syntax.specs.declared.tree.Position.{Position}
use Rattle.ac_poly.specs.declared.types.Model.{Model}
use Rattle.ac_poly.specs.declared.types.StmtModel.{StmtModel}
use Rattle.ac_claims_paths.specs.PathColumns.{base, columns_of}
use Rattle.ac_claims_paths.specs.InstanceCoordinates.{width}
use Rattle.ac_claims_paths.specs.WellFormedPaths.{HasModuli}
use Rattle.ac_claims_paths.specs.PathSteps.{root, case_rows}
use Rattle.ac_claims_paths.specs.CopyKills.{case_width, source_width, with_own_columns, copy_rows}
use Rattle.ac_forms.specs.ListMembers.{IsAmong}
use Rattle.ac_claims_paths.specs.ModelPositions.{cell_read}
use Rattle.ac_claims_paths.specs.declared.places.CellForms.{CellForms}
use Rattle.ac_claims_paths.specs.declared.path.Assumed.{Assumed}
use Rattle.ac_claims_paths.specs.declared.path.CopyNumbers.{CopyNumbers}
use Rattle.ac_claims_paths.specs.declared.path.Seat.{Seat}
use Rattle.ac_claims_paths.proofs.CopySteps.{rows_made}
use Rattle.ac_flow.specs.FlowCases.{Reads}
use Rattle.ac_flow.specs.Writings.{alone, reading, over, rows_of, conj_of, writings}
use Rattle.ac_omega.specs.DifferenceRows.{AreDifferences}
use Rattle.ac_flow_budget.specs.Models.{HasDifferences, StmtHasDifferences, AreShifted}
use Rattle.ac_flow_budget.proofs.Levels.{all-get, level-differs, Follows, follows}
use Rattle.ac_flow_budget.proofs.Named.{IsNamed, named}
use Rattle.ac_flow_budget.proofs.Renamed.{renames}
use Rattle.ac_flow_budget.proofs.Rows.{AreNarrow, rows-more, rows-both}
use Rattle.ac_flow_budget.proofs.Shifted.{equates}

-- what is assumed for a reader, at the root of an assignment behind its coordinates, or nowhere
pub data IsPlaced (m : Model) (count : ℕ) : Option Seat → Type 0 where
  Nowhere : IsPlaced m count None
  AtRoot : (u : ℕ) (stmt : StmtModel) → slice_get m.stmts u ≡ Some stmt → IsPlaced m count (Some (root (m.params + count) u stmt))

own-columns : (m : Model) (reader : Position) (count : ℕ) (source : Option Seat) → IsPlaced m count source → with_own_columns m.params (reading m reader count source) ≡ reading m reader count source
own-columns m reader count _ Nowhere = refl
own-columns m reader count _ (AtRoot u stmt is) = refl

-- a model of differences, and a reader of it
pub record IsRead (m : Model) (r : Reads) : Type 0 where
  pub cell : CellForms
  pub read : cell_read m r.position ≡ Some cell
  pub array : cell.array ≡ r.array
  pub subs : AreShifted (2 ^ 33) cell.subs
  pub long : (u : ℕ) (stmt : StmtModel) → slice_get m.stmts u ≡ Some stmt → stmt.array ≡ r.array → length cell.subs ≡ length stmt.subs
  pub few : r.count ≤ 6
  pub pieces : (piece : List Row) → IsAmong piece r.pieces → AreNarrow (m.params + r.count) (2 ^ 34) piece

source-few : (m : Model) (count : ℕ) (source : Option Seat) → HasDifferences (2 ^ 33) m → IsPlaced m count source → source_width source ≤ 6
source-few m count _ d Nowhere = omega arith
source-few m count _ d (AtRoot u stmt is) = (d.stmts u stmt is).loops

pub width-few : (m : Model) (r : Reads) (source : Option Seat) → HasDifferences (2 ^ 33) m → IsRead m r → IsPlaced m r.count source → case_width m.params (reading m r.position r.count source) ≤ 16
width-few m r source d h p = omega (arith, source-few m r.count source d p, h.few, d.params)

-- the rows of a case
record CaseRows (m : Model) (reader : Seat) (cell : CellForms) (source : Seat) (stmt : StmtModel) (piece level : List Row) : Type 0 where
  rows : List Row
  is : case_rows m.params reader cell source stmt piece level ≡ Some rows
  differences : AreDifferences (2 ^ 34) rows

rows-of-case : (m : Model) (reader : Seat) (cell : CellForms) (source : Seat) (stmt : StmtModel) (piece level : List Row) → AreShifted (2 ^ 33) cell.subs → AreShifted (2 ^ 33) stmt.subs → length cell.subs ≡ length stmt.subs → AreDifferences (2 ^ 33) piece → AreDifferences 1 level
    → CaseRows m reader cell source stmt piece level
rows-of-case m reader cell source stmt piece level c s long p l =
    let x = renames (2 ^ 33) (base m.params ++ columns_of source) piece p in
    let y = equates (2 ^ 33) (2 ^ 33) (base m.params ++ columns_of reader) cell.subs (base m.params ++ columns_of source) stmt.subs (lit< tt) long c s in
    let z = renames 1 (base m.params ++ (columns_of source ++ columns_of reader)) level l in
    record {
      rows = x.rows ++ (y.rows ++ z.rows);
      is = rw (x.is, y.is, z.is) refl;
      differences = rows-both (2 ^ 34) x.rows (y.rows ++ z.rows) (rows-more (2 ^ 33) (2 ^ 34) x.rows (lit≤ tt) x.differences)
          (rows-both (2 ^ 34) y.rows z.rows (rows-more (2 ^ 33 + 2 ^ 33) (2 ^ 34) y.rows (lit≤ tt) y.differences) (rows-more 1 (2 ^ 34) z.rows (lit≤ tt) z.differences));
    }

-- a copy
pub record IsMade (m : Model) (a : Assumed) (w : CopyNumbers) : Type 0 where
  pub stmt : StmtModel
  pub is : slice_get m.stmts w.stmt ≡ Some stmt
  pub rows : List Row
  pub made : conj_of m a w ≡ Some (over (case_width m.params a + width stmt) rows)
  pub narrow : AreNarrow (case_width m.params a + width stmt) (2 ^ 34) rows
  pub few : width stmt ≤ 6

copy-made : (m : Model) (r : Reads) (source : Option Seat) (w : CopyNumbers) → HasModuli m → HasDifferences (2 ^ 33) m → IsRead m r → IsPlaced m r.count source → IsNamed m r.position r.array source w → IsMade m (reading m r.position r.count source) w
copy-made m r source w hm d h p n = record {
  stmt = n.stmt;
  is = n.is;
  rows = all;
  made = rw (n.is, made) refl;
  narrow = record { over = within; differences = differ };
  few = own.loops;
}
  where
    a : Assumed
    a = reading m r.position r.count source

    first : ℕ
    first = case_width m.params a

    own : StmtHasDifferences (2 ^ 33) n.stmt
    own = d.stmts w.stmt n.stmt n.is

    x : CaseRows m a.reader h.cell (root first w.stmt n.stmt) n.stmt n.piece n.level
    x =
        rows-of-case m a.reader h.cell (root first w.stmt n.stmt) n.stmt n.piece n.level h.subs own.subs (h.long w.stmt n.stmt n.is n.array_is)
        (all-get (AreDifferences (2 ^ 33)) n.stmt.pieces w.piece n.piece own.pieces n.piece_is) (level-differs m w.stmt n.stmt r.position w.before n.level n.level_is)

    y : Follows m source w.after w.stmt (root first w.stmt n.stmt) n.stmt
    y = follows m source w.after w.stmt (root first w.stmt n.stmt) n.stmt n.after

    all : List Row
    all = x.rows ++ y.rows

    same : nat_eq n.stmt.array h.cell.array ≡ true
    same = eq-eqb n.stmt.array h.cell.array (n.array_is ∙ sym h.array)

    made : rows_of m a first w n.stmt ≡ Some all
    made = rw (h.read, same, n.piece_is, n.level_is, x.is, y.is) refl

    differ : AreDifferences (2 ^ 34) all
    differ = rows-both (2 ^ 34) x.rows y.rows x.differences (rows-more 1 (2 ^ 34) y.rows (lit≤ tt) y.differences)

    within : AreRowsOver (first + width n.stmt) all
    within =
        rows_made (alone m) a w.stmt w.piece w.after w.before n.stmt all hm n.is
        (subst (λ (b : Assumed). copy_rows (alone m) b first w.stmt w.piece w.after w.before n.stmt ≡ Some all) (sym (own-columns m r.position r.count source p)) made)

pub all-made : (m : Model) (r : Reads) (source : Option Seat) (w : CopyNumbers) → HasModuli m → HasDifferences (2 ^ 33) m → IsRead m r → IsPlaced m r.count source → IsAmong w (writings m r.position r.array source) → IsMade m (reading m r.position r.count source) w
all-made m r source w hm d h p i = copy-made m r source w hm d h p (named m r.position r.array source w i)
