-- A kill of a flow: its choices are replayed on its copy, and its rows are over the columns of its case.
use Rattle.std.proofs.Common.{◌≡◌, inl, inr, ℕ, ◌+◌, List, [], ◌∷◌, map, Option, Some, None, refl, sym, ap, ◌∙◌, subst, arith}
use Rattle.std.specs.Prelude.{slice_get, option_and_then, option_map}
use Rattle.ac_forms.specs.Rows.{AreRowsOver}
use Rattle.ac_forms.specs.declared.conj.Conj.{Conj}
use Rattle.ac_forms.specs.declared.row.Row.{Row}
use Rattle.ac_flow.specs.CaseRemainder.{AllKills}
use Rattle.ac_omega.specs.Replays.{AreOver}
use Rattle.ac_omega.specs.declared.piece.Piece.{Piece}
use Rattle.ac_claims.specs.declared.types.Kill.{Kill}
use Rattle.ac_poly.specs.declared.types.Model.{Model}
use Rattle.ac_poly.specs.declared.types.StmtModel.{StmtModel}
use Rattle.ac_claims_paths.specs.InstanceCoordinates.{width}
use Rattle.ac_claims_paths.specs.PathSteps.{root}
use Rattle.ac_claims_paths.specs.CopyKills.{case_width, source_width, source_from, with_own_columns}
use Rattle.ac_forms.specs.ListMembers.{IsAmong}
use Rattle.ac_claims_paths.specs.declared.path.CopyNumbers.{CopyNumbers}
use Rattle.ac_claims_paths.specs.declared.path.Seat.{Seat}
use Rattle.ac_claims_paths.specs.declared.path.Side.TheVariants.{Left}
use Rattle.ac_claims_paths.proofs.InBranches.{in_either}
use Rattle.ac_flow.specs.FlowCases.{Reads, IsCaseOf, IsSourceCase, IsInitialCase, AreCases, kill_of, kills_of}
use Rattle.ac_flow.specs.KillReplay.{IsReplayed, AllReplayed}
use Rattle.ac_flow.specs.Writings.{writings}
use Rattle.ac_flow.specs.declared.types.Case.{Case}
use Rattle.ac_flow.proofs.Exact.{formed, last_case, case_of_writing}
use Rattle.ac_flow.proofs.Replaying.{kills_are_replayed}
use Rattle.ac_flow.specs.KillAcceptance.{assumed_source, assumed_by, IsKillOf}

-- ---- the cases of a flow

-- a case of a writing, or of the initial contents
pub data IsCase (m : Model) (r : Reads) (case : Case) : Type 0 where
  OfWriting : (w : CopyNumbers) → IsSourceCase m r w case → IsCase m r case
  OfContents : IsInitialCase m r case → IsCase m r case

pub case_in : (m : Model) (r : Reads) (ws : List CopyNumbers) (cases : List Case) → AreCases m r ws cases → (case : Case) → IsAmong case cases → IsCase m r case
case_in m r [] [] h case i = absurd h
case_in m r [] (c ∷ []) h case (inl e) = OfContents (subst (IsInitialCase m r) (sym e) h)
case_in m r [] (c ∷ []) h case (inr i) = absurd i
case_in m r [] (c ∷ d ∷ cs) h case i = absurd h
case_in m r (w ∷ ws) [] h case i = absurd h
case_in m r (w ∷ ws) (c ∷ cs) h case (inl e) = OfWriting w (subst (IsSourceCase m r w) (sym e) h.0)
case_in m r (w ∷ ws) (c ∷ cs) h case (inr i) = case_in m r ws cs h.1 case i

-- what a case is of, over its own columns
record Assumes (m : Model) (r : Reads) (case : Case) : Type 0 where
  columns : ℕ
  rows : List Row
  wide : columns ≡ case_width m.params (assumed_by m r case)
  case_of : IsCaseOf m r (assumed_source m r case) columns rows case.pieces case.kills

assumes_writing : (m : Model) (r : Reads) (case : Case) (w : CopyNumbers) → IsSourceCase m r w case → Assumes m r case
assumes_writing m r case w h =
    let seat = root (m.params + r.count) w.stmt h.stmt in
    let is : assumed_source m r case ≡ Some seat =
    ap (λ (o : Option ℕ). option_and_then (λ u. option_map (root (m.params + r.count) u) (slice_get m.stmts u)) o) h.source ∙ ap (λ (o : Option StmtModel). option_map (root (m.params + r.count) w.stmt) o) h.is in
    let f = (formed m r w h.stmt h.own r.count h.is h.formed refl).columns in
    let n : m.params + r.count + width h.stmt ≡ m.params + (r.count + width h.stmt) = omega arith in
    record {
      columns = h.own.columns;
      rows = h.own.rows;
      wide = f ∙ n ∙ ap (λ (o : Option Seat). m.params + (r.count + source_width o)) (sym is);
      case_of = subst (λ (o : Option Seat). IsCaseOf m r o h.own.columns h.own.rows case.pieces case.kills) (sym is) h.case_of;
    }

assumes_contents : (m : Model) (r : Reads) (case : Case) → IsInitialCase m r case → Assumes m r case
assumes_contents m r case h =
    let is : assumed_source m r case ≡ None = ap (λ (o : Option ℕ). option_and_then (λ u. option_map (root (m.params + r.count) u) (slice_get m.stmts u)) o) h.source in
    let n : m.params + r.count ≡ m.params + (r.count + 0) = omega arith in
    record {
      columns = m.params + r.count;
      rows = [];
      wide = n ∙ ap (λ (o : Option Seat). m.params + (r.count + source_width o)) (sym is);
      case_of = subst (λ (o : Option Seat). IsCaseOf m r o (m.params + r.count) [] case.pieces case.kills) (sym is) h.case_of;
    }

assumes : (m : Model) (r : Reads) (case : Case) → IsCase m r case → Assumes m r case
assumes m r case (OfWriting w h) = assumes_writing m r case w h
assumes m r case (OfContents h) = assumes_contents m r case h

-- ---- over its own columns

root_own : (k u : ℕ) (o : Option StmtModel) → source_from k (option_map (root k u) o) ≡ option_map (root k u) o
root_own k u None = refl
root_own k u (Some stmt) = refl

source_own : (m : Model) (k : ℕ) (o : Option ℕ) → source_from k (option_and_then (λ u. option_map (root k u) (slice_get m.stmts u)) o) ≡ option_and_then (λ u. option_map (root k u) (slice_get m.stmts u)) o
source_own m k None = refl
source_own m k (Some u) = root_own k u (slice_get m.stmts u)

pub own_source : (m : Model) (r : Reads) (case : Case) → source_from (m.params + r.count) (assumed_source m r case) ≡ assumed_source m r case
own_source m r case = source_own m (m.params + r.count) case.source

pub is_own : (m : Model) (r : Reads) (case : Case) → assumed_by m r case ≡ with_own_columns m.params (assumed_by m r case)
is_own m r case = λ i. record { side = Left; reader = record { position = r.position; first = m.params; width = r.count }; source = sym (own_source m r case) i }

-- ---- its kills

kill_in : (m : Model) (r : Reads) (case : Case) (kills : List (Conj × Kill)) (kill : Conj × Kill) → AllReplayed m (assumed_by m r case) kills → IsAmong kill kills → IsReplayed m (assumed_by m r case) kill
kill_in m r case [] kill h i = absurd i
kill_in m r case (k ∷ kills) kill h (inl e) = subst (λ (y : Conj × Kill). IsReplayed m (assumed_by m r case) y) (sym e) h.0
kill_in m r case (k ∷ kills) kill h (inr i) = kill_in m r case kills kill h.1 i

over_of_copy : (n : ℕ) (w : CopyNumbers) (found : List Piece) (kill : Conj × Kill) → AreOver n found → IsAmong kill (map (kill_of n w) found) → AreRowsOver n kill.0.rows
over_of_copy n w [] kill o i = absurd i
over_of_copy n w (x ∷ found) kill o (inl e) = subst (λ (y : Conj × Kill). AreRowsOver n y.0.rows) (sym e) o.0
over_of_copy n w (x ∷ found) kill o (inr i) = over_of_copy n w found kill o.1 i

over_of_kills : (n : ℕ) (ws : List CopyNumbers) (all : List Conj) (found : List (List Piece)) (kill : Conj × Kill) → AllKills n all found → IsAmong kill (kills_of n ws found) → AreRowsOver n kill.0.rows
over_of_kills n [] all found kill h i = absurd i
over_of_kills n (w ∷ ws) all [] kill h i = absurd i
over_of_kills n (w ∷ ws) [] (k ∷ ks) kill h i = absurd h
over_of_kills n (w ∷ ws) (c ∷ cs) (k ∷ ks) kill h i = elim (in_either kill (map (kill_of n w) k) (kills_of n ws ks) i) [ inl a ↦ over_of_copy n w k kill h.0.over a | inr b ↦ over_of_kills n ws cs ks kill h.1 b ]

pub record KillParts (m : Model) (r : Reads) (case : Case) (kill : Conj × Kill) : Type 0 where
  pub replayed : IsReplayed m (assumed_by m r case) kill
  pub over : AreRowsOver (case_width m.params (assumed_by m r case)) kill.0.rows

pub kill_parts : (m : Model) (r : Reads) (case : Case) (kill : Conj × Kill) → IsKillOf m r case kill → KillParts m r case kill
kill_parts m r case kill h =
    let a = assumes m r case (case_in m r (writings m r.position r.array None) h.flow.cases h.is.1 case h.case_among) in
    let c = a.case_of in
    let ws = writings m r.position r.array (assumed_source m r case) in
    record {
      replayed = kill_in m r case case.kills kill (kills_are_replayed m r (assumed_source m r case) a.columns a.rows case.pieces case.kills (is_own m r case) a.wide c) h.among;
      over = subst (λ n. AreRowsOver n kill.0.rows) a.wide (over_of_kills a.columns ws c.all c.found kill c.killed (subst (λ (ks : List (Conj × Kill)). IsAmong kill ks) c.are h.among));
    }
