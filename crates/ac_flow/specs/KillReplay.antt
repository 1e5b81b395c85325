-- The kills of a case, as a judge of proofs replays them.
use Rattle.std.specs.Prelude.{ℕ, ◌≡◌, List, [], ◌∷◌, true, Option, Some}
use Rattle.ac_forms.specs.declared.conj.Conj.{Conj}
use Rattle.ac_forms.specs.declared.row.Row.{Row}
use Rattle.ac_claims.specs.declared.types.Kill.{Kill}
use Rattle.ac_poly.specs.declared.types.Model.{Model}
use Rattle.ac_claims_paths.specs.CopyKills.{case_width, with_own_columns, copy_of, all_chosen, ends_before}
use Rattle.ac_claims_paths.specs.declared.path.Assumed.{Assumed}
use Rattle.ac_claims_paths.specs.declared.path.Seat.{Seat}
use Rattle.ac_flow.specs.FlowCases.{Reads, IsCaseOf}
use Rattle.ac_flow.specs.Writings.{alone, reading}
use Rattle.ac_flow.specs.declared.types.Remainder.{Remainder}

-- the copy that a kill names is there; its choices are legal one after the other, name the copy's columns alone, and leave the
-- rows of the kill's conjunction, which have none of these columns
pub record IsReplayed (m : Model) (a : Assumed) (kill : Conj × Kill) : Type 0 where
  pub copy : Conj
  pub there : copy_of (alone m) a kill.1.stmt kill.1.piece kill.1.after kill.1.before ≡ Some copy
  pub left : Conj
  pub chosen_all : all_chosen (case_width m.params a) (case_width m.params a) kill.1.choices copy ≡ Some left
  pub rows : left.rows ≡ kill.0.rows
  pub ends : ends_before (case_width m.params a) left.rows ≡ true

abbrev pub AllReplayed : Model → Assumed → List (Conj × Kill) → Type 0
AllReplayed m a [] = Unit {0}
AllReplayed m a (k ∷ ks) = IsReplayed m a k × AllReplayed m a ks

-- so it is with all kills of a case
abbrev pub KillsAreReplayed : Type 0
KillsAreReplayed =
    (m : Model) (r : Reads) (source : Option Seat) (columns : ℕ) (rows : List Row) (left : List Remainder) (kills : List (Conj × Kill)) → reading m r.position r.count source ≡ with_own_columns m.params (reading m r.position r.count source)
    → columns ≡ case_width m.params (reading m r.position r.count source) → IsCaseOf m r source columns rows left kills → AllReplayed m (reading m r.position r.count source) kills
