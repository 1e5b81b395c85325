-- Rows that stand for others: their normal form is the same, and it is made in `i128` where theirs is.
use Rattle.std.specs.Prelude.{ℕ, ◌≤◌, cond, List, [], ◌∷◌, ◌++◌, length, Option, Some, None}
use Rattle.ac_forms.specs.NormalForm.{normal_form}
use Rattle.ac_forms.specs.RangeTests.{rows_fit}
use Rattle.ac_forms.specs.declared.row.Row.{Row}
use Rattle.ac_omega_steps.specs.declared.column.Bound.{Bound}

-- the normal form of rows that may be missing, where it is made in `i128`
abbrev pub normal_of : Option (List Row) → Option (List Row)
normal_of (Some rows) = cond (rows_fit rows) (Some (normal_form rows)) None
normal_of None = None

-- the rows, if they are not missing, with more rows behind them
abbrev pub with_more : Option (List Row) → List Row → Option (List Row)
with_more (Some rows) more = Some (rows ++ more)
with_more None more = None

-- no rest of a bound keeps more coefficients than there are columns
abbrev pub AreBoundsOver : ℕ → List Bound → Type 0
AreBoundsOver columns [] = Unit {0}
AreBoundsOver columns (b ∷ bs) = (length b.rest.coefs ≤ columns) × AreBoundsOver columns bs
