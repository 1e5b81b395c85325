-- The template rows that a claim keeps.
use Rattle.std.specs.Prelude.{◌≡◌, ℕ, ℤ, List, map}
use Rattle.ac_forms.specs.declared.row.Row.{Row}
use Rattle.ac_hull.specs.ColumnDifferences.{IsMetRow, IsThin, row_of}
use Rattle.ac_hull.specs.declared.difference.Difference.{Difference}

-- the rows of a claim at found members: of the template rows that all of them meet, rows on which all rest, and none too many
abbrev pub AreClaimRows : ℕ → List ℤ → List ℤ → List (List ℤ) → List Row → Type 0
AreClaimRows columns thresholds moduli found rows = (ds : List Difference) × (rows ≡ map (row_of columns) ds) × IsThin found (IsMetRow columns thresholds moduli found) ds
