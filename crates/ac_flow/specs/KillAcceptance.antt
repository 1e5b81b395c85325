-- The kills of a flow, as a judge of proofs accepts them.
use Rattle.std.specs.Prelude.{ℕ, ◌+◌, ◌-◌, ◌≡◌, ℤ, List, map, true, Option, Some, None, option_and_then, option_map, slice_get}
use Rattle.ac_forms.specs.Renaming.{rows_renaming}
use Rattle.ac_forms.specs.Rows.{Meets, form_of}
use Rattle.ac_forms.specs.RangeTests.{form_fits, rows_fit}
use Rattle.ac_forms.specs.declared.conj.Conj.{Conj}
use Rattle.ac_forms.specs.declared.row.Row.{Row}
use Rattle.ac_omega_steps.specs.Choices.{column_of}
use Rattle.ac_omega_steps.specs.declared.choose.Choice.{Choice}
use Rattle.ac_claims.specs.PlanFaults.{kill_fault}
use Rattle.ac_claims.specs.declared.types.Kill.{Kill}
use Rattle.ac_poly.specs.declared.types.Model.{Model}
use Rattle.ac_claims_paths.specs.PathSteps.{Pairing, model_of, root}
use Rattle.ac_claims_paths.specs.CopyKills.{case_columns, case_width, seat_from, source_from, by_column, copy_of, all_chosen, is_killed}
use Rattle.ac_forms.specs.ListMembers.{IsAmong}
use Rattle.ac_claims_paths.specs.PathRows.{made_and_stand}
use Rattle.ac_claims_paths.specs.declared.path.Assumed.{Assumed}
use Rattle.ac_claims_paths.specs.declared.path.Path.{Path}
use Rattle.ac_claims_paths.specs.declared.path.Seat.{Seat}
use Rattle.ac_flow.specs.FlowCases.{Reads}
use Rattle.ac_flow.specs.Readers.{IsFlowOf}
use Rattle.ac_flow.specs.Writings.{alone, reading}
use Rattle.ac_flow.specs.declared.types.Case.{Case}
use Rattle.ac_flow.specs.declared.types.ReadFlow.{ReadFlow}

-- ---- what a case assumes

-- its source, behind the coordinates of the reader
abbrev pub assumed_source : Model → Reads → Case → Option Seat
assumed_source m r case = option_and_then (λ u. option_map (root (m.params + r.count) u) (slice_get m.stmts u)) case.source

abbrev pub assumed_by : Model → Reads → Case → Assumed
assumed_by m r case = reading m r.position r.count (assumed_source m r case)

-- a kill of a case of the flow of a read or an output
pub record IsKillOf (m : Model) (r : Reads) (case : Case) (kill : Conj × Kill) : Type 0 where
  pub flow : ReadFlow
  pub is : IsFlowOf m r flow
  pub case_among : IsAmong case flow.cases
  pub among : IsAmong kill case.kills

-- what was assumed on a path is what the case assumes, in its program, with columns of the path
pub record IsAssumedOn (g : Pairing) (a : Assumed) (m : Model) (case : Assumed) : Type 0 where
  pub model : model_of g a.side ≡ m
  pub params : g.params ≡ m.params
  pub reader : seat_from m.params a.reader ≡ case.reader
  pub source : source_from (m.params + a.reader.width) a.source ≡ case.source

-- ---- a kill on a path

-- a choice that names a copy's column behind those of a path, where it named it behind those of a case
abbrev pub behind : ℕ → ℕ → Choice → Choice
behind own columns x = by_column (columns + (column_of x - own)) x

abbrev pub on_path : ℕ → ℕ → Kill → Kill
on_path own columns kill = record { stmt = kill.stmt; piece = kill.piece; after = kill.after; before = kill.before; choices = map (behind own columns) kill.choices }

-- the copy that the kill names is there, its choices are legal one after the other, and what they leave has none of the copy's
-- columns and stands among the rows
pub record IsAccepted (g : Pairing) (a : Assumed) (columns : ℕ) (rows : List Row) (kill : Kill) : Type 0 where
  pub copy : Conj
  pub there : copy_of g a kill.stmt kill.piece kill.after kill.before ≡ Some copy
  pub left : Conj
  pub chosen_all : all_chosen columns (case_width g.params a) kill.choices copy ≡ Some left
  pub killed : is_killed g.params rows a left ≡ true

-- an accepted kill is an end of a plan without a fault, whatever its line
abbrev pub AcceptedKillsEndPlans : Type 0
AcceptedKillsEndPlans = (g : Pairing) (h : Path) (a : Assumed) (kill : Kill) (line : ℕ) → IsAccepted g a h.conj.columns h.conj.rows kill → kill_fault g h (Some a) kill line ≡ None

-- ---- when it is accepted

-- where the kill's rows, over the path's columns, are made and stand among those of the path
abbrev pub StandingKillsAreAccepted : Type 0
StandingKillsAreAccepted =
    (m : Model) (r : Reads) (case : Case) (kill : Conj × Kill) → IsKillOf m r case kill → (g : Pairing) (a : Assumed) (columns : ℕ) (rows : List Row) → IsAssumedOn g a m (assumed_by m r case)
    → made_and_stand rows (rows_renaming (case_columns g.params a) kill.0.rows) ≡ true → IsAccepted g a columns rows (on_path (case_width g.params a) columns kill.1)

-- the rows are among those of a path with a point, and have normal forms in `i128`
pub record AreThere (rows wanted : List Row) : Type 0 where
  pub among : (row : Row) → IsAmong row wanted → IsAmong row rows
  pub fit : rows_fit wanted ≡ true
  pub point : List ℤ
  pub meets : Meets rows point

-- so they are where they are there
abbrev pub KillsThereAreAccepted : Type 0
KillsThereAreAccepted =
    (m : Model) (r : Reads) (case : Case) (kill : Conj × Kill) → IsKillOf m r case kill → (g : Pairing) (a : Assumed) (columns : ℕ) (rows wanted : List Row) → IsAssumedOn g a m (assumed_by m r case)
    → rows_renaming (case_columns g.params a) kill.0.rows ≡ Some wanted → AreThere rows wanted → IsAccepted g a columns rows (on_path (case_width g.params a) columns kill.1)

-- the rows are among others, of which each has numbers of `i128` alone, and which have a point
pub record AreWithin (rows wanted : List Row) : Type 0 where
  pub among : (row : Row) → IsAmong row wanted → IsAmong row rows
  pub numbers : (row : Row) → IsAmong row rows → form_fits (form_of row) ≡ true
  pub point : List ℤ
  pub meets : Meets rows point

-- over the case's own columns the kill is accepted as it is, on all rows that its own are among
abbrev pub OwnKillsAreAccepted : Type 0
OwnKillsAreAccepted =
    (m : Model) (r : Reads) (case : Case) (kill : Conj × Kill) → IsKillOf m r case kill → (rows : List Row) → AreWithin rows kill.0.rows
    → IsAccepted (alone m) (assumed_by m r case) (case_width m.params (assumed_by m r case)) rows kill.1
