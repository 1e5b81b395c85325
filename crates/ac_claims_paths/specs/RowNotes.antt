-- Rows beside their normal forms.
use Rattle.std.specs.Prelude.{◌≡◌, List, map}
use Rattle.ac_forms.specs.Standing.{normal_of}
use Rattle.ac_forms.specs.declared.row.Row.{Row}
use Rattle.ac_claims_paths.specs.declared.noted.Noted.{Noted}

-- the form beside the row is its normal form
abbrev pub IsNoted : Noted → Type 0
IsNoted n = n.normal ≡ normal_of n.row

-- the rows without their normal forms
abbrev pub rows_of : List Noted → List Row
rows_of = map (λ n. n.row)
