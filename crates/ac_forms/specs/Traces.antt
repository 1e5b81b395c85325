-- Where the rows of a normal form come from, and why one is absurd.
use Rattle.std.specs.Prelude.{◌≡◌, ◌⊎◌, List, [], ◌∷◌, true}
use Rattle.ac_forms.specs.NormalForm.{clash, left_rows}
use Rattle.ac_forms.specs.NormalRows.{normal_row}
use Rattle.ac_forms.specs.declared.row.Row.{Row}
use Rattle.ac_forms.specs.declared.normal.NormalRow.TheVariants.{Kept, Absurd}

-- the row is the normal form of one of the rows
abbrev pub IsLeftOf : Row → List Row → Type 0
IsLeftOf r [] = ⊥
IsLeftOf r (x ∷ xs) = (normal_row x ≡ Kept r) ⊎ IsLeftOf r xs

-- one of the rows is absurd by itself
abbrev pub HasAbsurd : List Row → Type 0
HasAbsurd [] = ⊥
HasAbsurd (x ∷ xs) = (normal_row x ≡ Absurd) ⊎ HasAbsurd xs

-- the normal forms of two of the rows are equalities with the same coefficients and different constants
abbrev pub HasClash : List Row → Type 0
HasClash rs = (r : Row) × (s : Row) × IsLeftOf r rs × IsLeftOf s rs × (clash r s ≡ true)
