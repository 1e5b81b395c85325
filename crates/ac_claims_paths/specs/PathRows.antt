-- Rows that were made, and stand among the rows of a path.
use Rattle.std.specs.Prelude.{Bool, false, List, Option, Some, None}
use Rattle.ac_forms.specs.Standing.{all_stand}
use Rattle.ac_forms.specs.declared.row.Row.{Row}

-- they were made, and all of them stand
abbrev pub made_and_stand : List Row → Option (List Row) → Bool
made_and_stand rows None = false
made_and_stand rows (Some wanted) = all_stand rows wanted
