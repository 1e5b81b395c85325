-- Which columns rows have.
use Rattle.std.specs.Prelude.{◌≡◌, ℕ, Bool, false, not, ◌||◌, pos, List, [], ◌∷◌}
use Rattle.std.specs.Ordering.{int_eq}
use Rattle.ac_forms.specs.Affine.{Affine, coef}
use Rattle.ac_forms.specs.NormalRows.{trim}
use Rattle.ac_forms.specs.Rows.{form_of}
use Rattle.ac_forms.specs.declared.row.Row.{Row}

-- the row has the column: its coefficient isn't 0
abbrev pub has_column : ℕ → Row → Bool
has_column z r = not (int_eq (coef z (form_of r)) (pos 0))

-- one of the rows has the column
abbrev pub is_present : ℕ → List Row → Bool
is_present z [] = false
is_present z (r ∷ rs) = has_column z r || is_present z rs

-- the form of the row keeps no 0 at its end
abbrev pub IsTrimmed : Row → Type 0
IsTrimmed r = trim (form_of r).coefs ≡ (form_of r).coefs

abbrev pub AreTrimmed : List Row → Type 0
AreTrimmed [] = Unit {0}
AreTrimmed (r ∷ rs) = IsTrimmed r × AreTrimmed rs

-- the form without the zeros at its end
abbrev pub trimmed : Affine → Affine
trimmed f = record { konst = f.konst; coefs = trim f.coefs }
