-- The columns that are no pivot's.
use Rattle.std.specs.Prelude.{◌≡◌, ℕ, List}
use Rattle.ac_widen.specs.Combinations.{Each}
use Rattle.ac_hull.specs.FractionFreeElimination.{column_of}
use Rattle.ac_hull.specs.declared.line.Line.{Line}

-- the column is no pivot's
abbrev pub IsFree : List Line → ℕ → Type 0
IsFree ls z = Each (λ l. ¬ (column_of l ≡ z)) ls
