-- The source of a cell, by the order of the entries alone.
use Rattle.std.proofs.Common.{◌≡◌, ◌<◌, ◌≤◌, List, [], ◌∷◌, length, ℤ, true, refl, sym, ap, ◌∙◌, arith, Option, Some, None, subst}
use Rattle.std.specs.List.{Contains}
use Rattle.std.proofs.lemmas.List.Elements.{Contains-append_right}
use Rattle.ac_syntax.specs.Index.{Point, point}
use Rattle.ac_syntax.specs.Trace.{Entry, trace_all, trace_of}
use Rattle.ac_syntax.specs.Algebra.{Cell, same_cell, target}
use Rattle.ac_syntax.specs.Source.{Writer, Stands, source}
use Rattle.ac_syntax.specs.ExecutionOrder.{IsBefore}
use Rattle.ac_syntax.specs.LawsOfSources.{Writes, IsLast}
use Rattle.ac_syntax.specs.declared.tree.Stmt.{Stmt}
use Rattle.ac_syntax.proofs.Cells.{same_cell_is, same_cell_refl}
use Rattle.ac_syntax.proofs.Places.{contains_stands}
use Rattle.ac_syntax.proofs.Order.{place_before, before_place}
use Rattle.ac_syntax.proofs.Shared.{common_around_all}
use Rattle.ac_syntax.proofs.Sources.{source_stands, source_last, source_none, stands_within, place_below, earlier_stands}

-- an entry at an earlier place is before
pub is_before : (body : List Stmt) (p : Point) (w u : Writer) → Stands (trace_all body 0 p []) w → Stands (trace_all body 0 p []) u → length w.earlier < length u.earlier → IsBefore body w.entry u.entry
is_before body p w u a b h = rw (common_around_all body 0 0 w.entry.stmt u.entry.stmt) (place_before body p w u a b h)

-- and an entry that is before stands at an earlier place
pub stands_before : (body : List Stmt) (p : Point) (w u : Writer) → Stands (trace_all body 0 p []) w → Stands (trace_all body 0 p []) u → IsBefore body w.entry u.entry → length w.earlier < length u.earlier
stands_before body p w u a b h = before_place body p w u a b (rw (common_around_all body 0 0 w.entry.stmt u.entry.stmt) at h)

pub stands_contains : {es : List Entry} {w : Writer} → Stands es w → Contains es w.entry
stands_contains {es = es} {w = w} h = subst (λ xs. Contains xs w.entry) (sym h.splits) (Contains-append_right w.earlier (w.entry ∷ h.later) w.entry (0, omega arith, refl))

pub writes_is : {es : List Entry} (c : Cell) (w : Writer) → Stands es w → same_cell c (target w.entry) ≡ true → Writes es c w.entry
writes_is c w h k = record { stands = stands_contains h; target = sym (same_cell_is c (target w.entry) k) }

-- where a writer stands
pub record WriterAt (es : List Entry) (c : Cell) (e : Entry) : Type 0 where
  pub at : Writer
  pub stands : Stands es at
  pub entry : at.entry ≡ e
  pub writes : same_cell c (target at.entry) ≡ true

pub writer_at : {es : List Entry} (c : Cell) (e : Entry) → Writes es c e → WriterAt es c e
writer_at {es = es} c e h =
    let r = contains_stands es e h.stands in
    record { at = r.0; stands = r.1; entry = r.2; writes = subst (λ (d : Cell). same_cell c d ≡ true) (sym (ap target r.2 ∙ h.target)) (same_cell_refl c) }

pub source_before : (body : List Stmt) (params : List ℤ) (c : Cell) (reader : Writer) → Stands (trace_of body params) reader
    → IsLast body (trace_of body params) c (λ e. IsBefore body e reader.entry) (source c reader.earlier)
source_before body params c reader h = by (source c reader.earlier) refl
  where
    earlier : (e : Entry) (a : WriterAt (trace_of body params) c e) → IsBefore body e reader.entry → Stands reader.earlier a.at
    earlier e a b = earlier_stands h a.stands (stands_before body (point params []) a.at reader a.stands h (subst (λ (x : Entry). IsBefore body x reader.entry) (sym a.entry) b))

    by : (o : Option Writer) → source c reader.earlier ≡ o → IsLast body (trace_of body params) c (λ e. IsBefore body e reader.entry) o
    by None k = λ e w b. let a = writer_at c e w in source_none c reader.earlier a.at k (earlier e a b) a.writes
    by (Some w) k =
        let s = source_stands c reader.earlier w k in
        let t = stands_within h s.0 in (
          writes_is c w t s.1,
          is_before body (point params []) w reader t h (place_below s.0),
          λ e x b d.
              let a = writer_at c e x in
              let le : length a.at.earlier ≤ length w.earlier = source_last c reader.earlier w a.at k (earlier e a b) a.writes in
              let lt : length w.earlier < length a.at.earlier = stands_before body (point params []) w a.at t a.stands (subst (λ (x : Entry). IsBefore body w.entry x) (sym a.entry) d) in
              omega arith,
        )

pub source_of_all : (body : List Stmt) (params : List ℤ) (c : Cell) → IsLast body (trace_of body params) c (λ e. Unit {0}) (source c (trace_of body params))
source_of_all body params c = by (source c (trace_of body params)) refl
  where
    by : (o : Option Writer) → source c (trace_of body params) ≡ o → IsLast body (trace_of body params) c (λ e. Unit {0}) o
    by None k = λ e w b. let a = writer_at c e w in source_none c (trace_of body params) a.at k a.stands a.writes
    by (Some w) k =
        let s = source_stands c (trace_of body params) w k in (
          writes_is c w s.0 s.1,
          tt,
          λ e x b d.
              let a = writer_at c e x in
              let le : length a.at.earlier ≤ length w.earlier = source_last c (trace_of body params) w a.at k a.stands a.writes in
              let lt : length w.earlier < length a.at.earlier = stands_before body (point params []) w a.at s.0 a.stands (subst (λ (x : Entry). IsBefore body w.entry x) (sym a.entry) d) in
              omega arith,
        )
