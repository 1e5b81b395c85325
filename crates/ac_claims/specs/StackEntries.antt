-- What the entries of a plan under way stand for, the next one last, and what all that is due in a stack of such plans is.
use Rattle.std.specs.Prelude.{◌≡◌, ◌≢◌, ℕ, ◌-◌, ◌≤◌, pos, ◌-ℤ◌, ◌≤ℤ◌, ◌<ℤ◌, unsigned_abs, true, List, [], ◌∷◌, ◌++◌, map, reverse, length, take, Result, Ok, Err}
use Rattle.std.specs.List.{AllByRecursion}
use Rattle.ac_forms.specs.declared.row.Row.{Row}
use Rattle.ac_cert.specs.Rules.{has_class, with_row}
use Rattle.ac_cert.specs.declared.types.EndStop.{EndStop}
use Rattle.ac_cert.specs.declared.types.EndStop.TheVariants as end
use Rattle.ac_claims_paths.specs.BranchPaths.{onto}
use Rattle.ac_claims_paths.specs.PathSteps.{at_rows}
use Rattle.ac_claims_paths.specs.declared.path.Branch.{Branch}
use Rattle.ac_claims_paths.specs.declared.path.Path.{Path}
use Rattle.ac_claims.specs.Machine.{Due, PlanAt, Choices, Taken, Refused, Onto, classes}
use Rattle.ac_claims.specs.declared.entry.Awaited.{Awaited}
use Rattle.ac_claims.specs.declared.entry.Awaited.TheVariants as awaited
use Rattle.ac_claims.specs.declared.entry.Classes.{Classes}
use Rattle.ac_claims.specs.declared.entry.Entry.{Entry}
use Rattle.ac_claims.specs.declared.entry.Ongoing.{Ongoing}
use Rattle.ac_claims.specs.declared.entry.Prefix.{Prefix}
use Rattle.ac_claims.specs.declared.entry.TakeStop.{TakeStop}
use Rattle.ac_claims.specs.declared.entry.TakeStop.TheVariants as stop

-- the path with the first of some rows
abbrev pub path_at : List Row → Prefix → Path
path_at rows p = record { conj = record { columns = p.columns; rows = take p.count rows }; left = p.left; right = p.right; gone = p.gone; last = p.last }

-- a path without its rows
abbrev pub prefix_of : Path → Prefix
prefix_of h = record { columns = h.conj.columns; count = length h.conj.rows; left = h.left; right = h.right; gone = h.gone; last = h.last }

-- the classes that are still to come
abbrev pub classes_of : Path → Classes → List Due
classes_of h c = classes c.modulus c.form (unsigned_abs c.next) (unsigned_abs c.modulus - unsigned_abs c.next) h

-- the branches that are still to come
abbrev pub branches_of : Path → List Branch → List Due
branches_of h left = map PlanAt (map (onto h) (reverse left))

-- what is due at a path
abbrev pub due_at : Path → Awaited → List Due
due_at h awaited.Plan = PlanAt h ∷ []
due_at h (awaited.Side row) = PlanAt (at_rows h (with_row h.conj row)) ∷ []
due_at h (awaited.Classes c) = classes_of h c
due_at h (awaited.Branches left) = branches_of h left
due_at h (awaited.Choosing c) = Choices c.line c.left h c.assumed c.copy ∷ []

-- what is due by an entry, where the path under way has some rows
abbrev pub due_of : List Row → Entry → List Due
due_of rows e = due_at (path_at rows e.prefix) e.awaited

-- all that is due in a plan under way, the next one first
abbrev pub dues : List Row → List Entry → List Due
dues rows [] = []
dues rows (e ∷ es) = dues rows es ++ due_of rows e

-- and in several, the next one last
abbrev pub all_dues : List Ongoing → List Due
all_dues [] = []
all_dues (p ∷ ps) = all_dues ps ++ dues p.rows p.entries

-- the branch stands over so many columns, and some class is still to come
pub record AreClasses (columns : ℕ) (c : Classes) : Type 0 where
  pub last : has_class c.modulus c.form (c.modulus -ℤ pos 1) columns ≡ true
  pub low : pos 0 ≤ℤ c.next
  pub high : c.next <ℤ c.modulus

-- something is due at a path of so many columns
abbrev pub HasDues : ℕ → Awaited → Type 0
HasDues columns awaited.Plan = Unit {0}
HasDues columns (awaited.Side row) = Unit {0}
HasDues columns (awaited.Classes c) = AreClasses columns c
HasDues columns (awaited.Branches left) = left ≢ []
HasDues columns (awaited.Choosing c) = Unit {0}

-- each entry has as many rows as the one before, or more, from one number of rows to another
abbrev pub Climb : ℕ → List Entry → ℕ → Type 0
Climb low [] high = low ≤ high
Climb low (e ∷ es) high = (low ≤ e.prefix.count) × Climb e.prefix.count es high

-- the entries of a path under way: none has more rows than the path or than a later entry, and by each something is due
pub record AreEntries (rows : List Row) (es : List Entry) : Type 0 where
  pub climb : Climb 0 es (length rows)
  pub due : AllByRecursion (λ (e : Entry). HasDues e.prefix.columns e.awaited) es

-- a plan under way: something is due in it
pub record IsOngoing (p : Ongoing) : Type 0 where
  pub entries : AreEntries p.rows p.entries
  pub some : p.entries ≢ []

-- what an item comes to: the rows of the path and the entries that are due then, or its refusal
abbrev pub Settles : Taken → List Entry → Result (List Row) TakeStop → Type 0
Settles t new (Ok rows) = (t ≡ Onto (dues rows new)) × AreEntries rows new
Settles t new (Err (stop.Refused f)) = t ≡ Refused f.line f.rule
Settles t new (Err (stop.Memory e)) = Unit {0}

-- the same of several plans under way
abbrev pub SettlesAll : Taken → List Ongoing → Result (Unit {0}) TakeStop → Type 0
SettlesAll t new (Ok u) = t ≡ Onto (all_dues new)
SettlesAll t new (Err (stop.Refused f)) = t ≡ Refused f.line f.rule
SettlesAll t new (Err (stop.Memory e)) = Unit {0}

-- a stop, at a line
abbrev pub at_line : EndStop → ℕ → TakeStop
at_line (end.Refused r) k = stop.Refused (record { line = k; rule = r })
at_line (end.Memory e) k = stop.Memory e
