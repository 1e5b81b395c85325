-- The places at which entries stand in a list, and the source of a cell by these places.
use Rattle.std.specs.Prelude.{◌≡◌, ◌<◌, ◌≤◌, ◌↔◌, List, length, true, Some, None}
use Rattle.std.specs.List.{Contains}
use Rattle.ac_syntax.specs.Trace.{Entry}
use Rattle.ac_syntax.specs.Algebra.{Cell, same_cell, target}
use Rattle.ac_syntax.specs.Source.{Writer, Stands, source}

-- an entry is in a list exactly where it stands at some place there
abbrev pub EntriesHavePlaces : Type 0
EntriesHavePlaces = (es : List Entry) (e : Entry) → Contains es e ↔ ((w : Writer) × Stands es w × (w.entry ≡ e))

-- at one place stands one entry
abbrev pub OnePlaceOneEntry : Type 0
OnePlaceOneEntry = (es : List Entry) (w u : Writer) → Stands es w → Stands es u → length w.earlier ≡ length u.earlier → w ≡ u

-- the entries before an entry are those that stand at an earlier place
abbrev pub EntriesBeforeStandEarlier : Type 0
EntriesBeforeStandEarlier = (es : List Entry) (w u : Writer) → Stands es w → Stands w.earlier u ↔ (Stands es u × (length u.earlier < length w.earlier))

-- two cells are tested to be one exactly where they are
abbrev pub CellsAreCompared : Type 0
CellsAreCompared = (c d : Cell) → (same_cell c d ≡ true) ↔ (c ≡ d)

-- the source stands there and writes the cell, and no later entry does
abbrev pub SourceStandsLast : Type 0
SourceStandsLast =
    (c : Cell) (es : List Entry) (w : Writer) → source c es ≡ Some w
    → Stands es w × (target w.entry ≡ c) × ((u : Writer) → Stands es u → target u.entry ≡ c → length u.earlier ≤ length w.earlier)

-- there is none exactly where no entry writes the cell
abbrev pub NoSourceIsNoWriter : Type 0
NoSourceIsNoWriter = (c : Cell) (es : List Entry) → (source c es ≡ None) ↔ ((u : Writer) → Stands es u → ¬ (target u.entry ≡ c))
