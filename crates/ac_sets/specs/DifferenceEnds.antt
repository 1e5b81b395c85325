-- Ends at parts of a difference: a piece, or what is taken away.
use Rattle.std.specs.Prelude.{ℕ, ◌-◌, Bool, true, false, ◌&&◌, nat_le, List, Option, Some, None, cond, slice_get, take, ℤ}
use Rattle.std.specs.List.{list_all}
use Rattle.ac_forms.specs.Renaming.{renamed_row}
use Rattle.ac_forms.specs.Standing.{is_among}
use Rattle.ac_forms.specs.declared.conj.Conj.{Conj}
use Rattle.ac_forms.specs.declared.row.Row.{Row}
use Rattle.ac_cert.specs.declared.types.Rule.{Rule}
use Rattle.ac_cert.specs.declared.types.Rule.TheVariants as rule
use Rattle.ac_sets.specs.SetIntersections.{quotients_from}
use Rattle.ac_sets.specs.declared.parts.Part.{Part}
use Rattle.ac_sets.specs.declared.parts.Part.TheVariants.{Piece, Inside}
use Rattle.ac_sets.specs.declared.parts.Parts.{Parts}
use Rattle.ac_forms.specs.Negation.{HasExtension}

-- the conjunction of the part
abbrev pub conj_of : Parts → Part → Option Conj
conj_of parts (Piece k) = slice_get parts.pieces k
conj_of parts Inside = Some parts.inside

-- each row of the conjunction is among those of the path, whose last columns are its further ones
abbrev pub stands : ℕ → Conj → Conj → Bool
stands visible path c = nat_le visible c.columns && (nat_le c.columns path.columns && list_all (λ r. is_among (renamed_row (quotients_from visible (path.columns - (c.columns - visible)) c.columns) r) path.rows) c.rows)

abbrev pub is_standing : ℕ → Conj → Option Conj → Bool
is_standing visible path None = false
is_standing visible path (Some c) = stands visible path c

-- the part is there, and its rows stand on the path
abbrev pub part_refusal : Parts → Part → Conj → Option Rule
part_refusal parts e path = cond (is_standing parts.inside.columns path (conj_of parts e)) None (Some rule.Hit)

abbrev pub ExtendsSome : List ℤ → Option Conj → Type 0
ExtendsSome p None = ⊥
ExtendsSome p (Some c) = HasExtension c p

-- the point's first numbers, with some for the part's further columns, meet the part
abbrev pub IsInPart : Parts → Part → List ℤ → Type 0
IsInPart parts e p = ExtendsSome (take parts.inside.columns p) (conj_of parts e)
