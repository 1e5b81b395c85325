-- Rows that were made, or not.
use Rattle.std.specs.Prelude.{List, Option, Some, None}
use Rattle.ac_forms.specs.Rows.{HaveModuli, IsWellMade}
use Rattle.ac_forms.specs.declared.conj.Conj.{Conj}
use Rattle.ac_forms.specs.declared.row.Row.{Row}

-- each modulus is at least 1, where rows were made
abbrev pub HaveIf : Option (List Row) → Type 0
HaveIf None = Unit {0}
HaveIf (Some rows) = HaveModuli rows

-- the conjunction is well made, where there is one
abbrev pub IsMadeIf : Option Conj → Type 0
IsMadeIf None = Unit {0}
IsMadeIf (Some conj) = IsWellMade conj
