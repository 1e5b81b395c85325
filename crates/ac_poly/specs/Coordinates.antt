-- What names an instance of an assignment: its coordinates, which stand behind the parameters.
use Rattle.std.specs.Prelude.{ℕ, ◌+◌, ◌≡◌, List, ℤ, nat_lt, Option, Some, None, slice_get}
use Rattle.std.specs.List.{Contains}
use Rattle.ac_forms.specs.declared.row.Row.{Row}
use Rattle.ac_syntax.specs.Trace.{Entry}
use Rattle.ac_poly.specs.LevelRows.{levels}
use Rattle.ac_poly.specs.declared.types.Model.{Model}
use Rattle.ac_poly.specs.declared.types.StmtModel.{StmtModel}
pub use Rattle.ac_poly.specs.StmtCoordinates.{width, coordinates_at}

-- the coordinates of the instance with these counters; an assignment that isn't there has no quotients
abbrev pub coordinates_of : Option StmtModel → List ℤ → List ℤ → List ℤ
coordinates_of None params counters = counters
coordinates_of (Some stmt) params counters = coordinates_at stmt params counters

-- the coordinates of an entry, at a valuation of the parameters
abbrev pub coordinates : Model → List ℤ → Entry → List ℤ
coordinates m params e = coordinates_of (slice_get m.stmts e.stmt) params e.counters

-- an entry of the assignment with a number, with these coordinates
abbrev pub HasInstance : Model → List ℤ → List Entry → ℕ → List ℤ → Type 0
HasInstance m params es number at = (e : Entry) × Contains es e × (e.stmt ≡ number) × (coordinates m params e ≡ at)

-- the levels by which an instance of the assignment s, with its coordinates from column i on, stands before one of the
-- assignment u, with its from column j on
abbrev pub levels_between : ℕ → StmtModel → ℕ → ℕ → StmtModel → ℕ → List (List Row)
levels_between s first i u second j = levels i j first.loops second.loops (nat_lt s u)

-- the same behind so many parameters: first the coordinates of the first, then those of the second
abbrev pub levels_before : ℕ → ℕ → StmtModel → ℕ → StmtModel → List (List Row)
levels_before params s first u second = levels_between s first params u second (params + width first)
