-- The places of entries, and the source of a cell by them.
use Rattle.std.proofs.Common.{◌≡◌, List, refl, sym, subst, true, Option, Some, None}
use Rattle.std.specs.List.{Contains}
use Rattle.ac_syntax.specs.Trace.{Entry}
use Rattle.ac_syntax.specs.Algebra.{Cell, same_cell, target}
use Rattle.ac_syntax.specs.LawsOfPlaces.{EntriesHavePlaces, OnePlaceOneEntry, EntriesBeforeStandEarlier, CellsAreCompared, SourceStandsLast, NoSourceIsNoWriter}
use Rattle.ac_syntax.specs.Source.{Writer, Stands, source}
use Rattle.ac_syntax.proofs.Cells.{same_cell_is, same_cell_refl}
use Rattle.ac_syntax.proofs.LastWriters.{stands_contains}
use Rattle.ac_syntax.proofs.Places.{contains_stands}
use Rattle.ac_syntax.proofs.Sources.{source_stands, source_last, source_none, stands_within, place_below, earlier_stands, one_place}

pub entries_have_places : EntriesHavePlaces
entries_have_places es e = ((λ c. contains_stands es e c), (λ s. subst (λ (x : Entry). Contains es x) s.2 (stands_contains s.1)))

pub one_place_one_entry : OnePlaceOneEntry
one_place_one_entry es w u a b h = one_place w u a b h

pub entries_before_stand_earlier : EntriesBeforeStandEarlier
entries_before_stand_earlier es w u a = ((λ b. (stands_within a b, place_below b)), (λ h. earlier_stands a h.0 h.1))

tested : (c d : Cell) → c ≡ d → same_cell c d ≡ true
tested c d e = subst (λ (x : Cell). same_cell c x ≡ true) e (same_cell_refl c)

pub cells_are_compared : CellsAreCompared
cells_are_compared c d = (same_cell_is c d, tested c d)

pub source_stands_last : SourceStandsLast
source_stands_last c es w h =
    let s = source_stands c es w h in
    (s.0, sym (same_cell_is c (target w.entry) s.1), λ u k e. source_last c es w u h k (tested c (target u.entry) (sym e)))

pub no_source_is_no_writer : NoSourceIsNoWriter
no_source_is_no_writer c es = ((λ h u k e. source_none c es u h k (tested c (target u.entry) (sym e))), by (source c es) refl)
  where
    by : (o : Option Writer) → source c es ≡ o → ((u : Writer) → Stands es u → target u.entry ≡ c → ⊥) → source c es ≡ None
    by None e n = e
    by (Some w) e n = let s = source_stands c es w e in absurd (n w s.0 (sym (same_cell_is c (target w.entry) s.1)))
