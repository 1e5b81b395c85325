-- What the entries of a trace are, and the order in which they stand.
use Rattle.std.specs.Prelude.{ℕ, ◌≡◌, ◌<◌, ◌↔◌, List, ℤ, length, Some}
use Rattle.std.specs.List.{Contains}
use Rattle.ac_syntax.specs.Index.{Point}
use Rattle.ac_syntax.specs.Trace.{Entry, trace_all, trace_of}
use Rattle.ac_syntax.specs.Instance.{IsInstanceAmong}
use Rattle.ac_syntax.specs.Source.{Writer, Stands}
use Rattle.ac_syntax.specs.AssignmentText.{assigned_all, text_of}
use Rattle.ac_syntax.specs.ExecutionOrder.{IsBefore}
use Rattle.ac_syntax.specs.declared.tree.Stmt.{Stmt}

-- the entries of a trace are exactly the instances
abbrev pub EntriesAreInstances : Type 0
EntriesAreInstances = (body : List Stmt) (first : ℕ) (p : Point) (counters : List ℤ) (e : Entry) → Contains (trace_all body first p counters) e ↔ IsInstanceAmong body first p counters e

-- an entry does what the assignment with its number says
abbrev pub EntriesFollowTheText : Type 0
EntriesFollowTheText = (body : List Stmt) (params : List ℤ) (w : Writer) → Stands (trace_of body params) w → assigned_all body 0 w.entry.stmt ≡ Some (text_of w.entry)

-- an entry stands earlier exactly where its counters and its place in the text say so
abbrev pub EntriesStandInOrder : Type 0
EntriesStandInOrder =
    (body : List Stmt) (params : List ℤ) (w u : Writer) → Stands (trace_of body params) w → Stands (trace_of body params) u
    → (length w.earlier < length u.earlier) ↔ IsBefore body w.entry u.entry

-- one assignment with one list of counters stands once
abbrev pub EachEntryStandsOnce : Type 0
EachEntryStandsOnce =
    (body : List Stmt) (params : List ℤ) (w u : Writer) → Stands (trace_of body params) w → Stands (trace_of body params) u
    → w.entry.stmt ≡ u.entry.stmt → w.entry.counters ≡ u.entry.counters → w ≡ u
