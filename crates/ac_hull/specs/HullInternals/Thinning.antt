-- When a row is left out of others.
use Rattle.std.specs.Prelude.{◌⊎◌, ℤ, List}
use Rattle.ac_forms.specs.ListMembers.{IsAmong}
use Rattle.ac_hull.specs.ColumnDifferences.{IsConstant, IsSum, IsWeaker}
use Rattle.ac_hull.specs.declared.difference.Difference.{Difference}

-- a row that is left out, with others about
abbrev pub IsRedundant : List (List ℤ) → List Difference → Difference → Type 0
IsRedundant points others d =
    IsConstant points d ⊎ (((e : Difference) × IsAmong e others × IsWeaker points e d) ⊎ ((a : Difference) × (b : Difference) × IsAmong a others × IsAmong b others × IsSum a b d))
