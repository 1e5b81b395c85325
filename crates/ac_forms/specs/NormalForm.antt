-- The normal form of a conjunction: each row in normal form, then in order, then equal ones joined.
use Rattle.std.specs.Prelude.{◌≡◌, ℤ, negsuc, List, [], ◌∷◌, cond, Bool, true, false, ◌&&◌, ◌||◌, not}
use Rattle.std.specs.List.{dedup}
use Rattle.std.specs.Ordering.{int_eq, is_gt}
use Rattle.std.specs.Cmp.Lexicographic.{pointwise}
use Rattle.ac_forms.specs.Affine.{Affine}
use Rattle.ac_forms.specs.NormalRows.{normal_row, NormalFits}
use Rattle.ac_forms.specs.FormOrder.{form_eq, row_cmp}
use Rattle.ac_forms.specs.Rows.{Holds, Meets}
use Rattle.ac_forms.specs.declared.conj.Conj.{Conj}
use Rattle.ac_forms.specs.declared.row.Row.{Row}
use Rattle.ac_forms.specs.declared.row.Row.TheVariants.{Eq, Div, Ge}
use Rattle.ac_forms.specs.declared.normal.NormalRow.{NormalRow}
use Rattle.ac_forms.specs.declared.normal.NormalRow.TheVariants.{Kept, Dropped, Absurd}

-- the row that no point meets, `-1 >= 0`, alone
abbrev pub absurd_rows : List Row
absurd_rows = Ge (record { konst = negsuc 0; coefs = [] }) ∷ []

-- what is left of a row, in front of what is left of others
abbrev pub left_onto : NormalRow → List Row → List Row
left_onto (Kept r) rs = r ∷ rs
left_onto Dropped rs = rs
left_onto Absurd rs = rs

-- the normal forms of the rows that say something
abbrev pub left_rows : List Row → List Row
left_rows [] = []
left_rows (r ∷ rs) = left_onto (normal_row r) (left_rows rs)

abbrev pub is_absurd : NormalRow → Bool
is_absurd (Kept r) = false
is_absurd Dropped = false
is_absurd Absurd = true

-- some row has no point
abbrev pub has_absurd : List Row → Bool
has_absurd [] = false
has_absurd (r ∷ rs) = is_absurd (normal_row r) || has_absurd rs

-- the row at its place among rows in order
abbrev pub insert_row : Row → List Row → List Row
insert_row r [] = r ∷ []
insert_row r (s ∷ ss) = cond (is_gt (row_cmp r s)) (s ∷ insert_row r ss) (r ∷ s ∷ ss)

-- the rows in order
abbrev pub in_order : List Row → List Row
in_order [] = []
in_order (r ∷ rs) = insert_row r (in_order rs)

abbrev pub same_coefs : Affine → Affine → Bool
same_coefs f g = pointwise int_eq f.coefs g.coefs

-- two `Eq` or two `Ge` rows with the same coefficients, or equal `Div` rows: of these the first in order stays
abbrev pub alike : Row → Row → Bool
alike (Eq f) (Eq g) = same_coefs f g
alike (Div m f) (Div n g) = int_eq m n && form_eq f g
alike (Ge f) (Ge g) = same_coefs f g
alike _ _ = false

-- two `Eq` rows with the same coefficients and different constants
abbrev pub clash : Row → Row → Bool
clash (Eq f) (Eq g) = same_coefs f g && not (int_eq f.konst g.konst)
clash _ _ = false

abbrev pub clash_after : Row → List Row → Bool
clash_after r [] = false
clash_after r (s ∷ ss) = clash r s || clash_after s ss

-- some row and the next one clash
abbrev pub has_clash : List Row → Bool
has_clash [] = false
has_clash (r ∷ rs) = clash_after r rs

-- rows in order, joined
abbrev pub joined : List Row → List Row
joined rs = cond (has_clash rs) absurd_rows (dedup alike rs)

-- the normal form of a list of rows
abbrev pub normal_form : List Row → List Row
normal_form rs = cond (has_absurd rs) absurd_rows (joined (in_order (left_rows rs)))

-- the normal form of a conjunction, over the same columns
abbrev pub normal_conj : Conj → Conj
normal_conj conj = record { columns = conj.columns; rows = normal_form conj.rows }

-- each row's normal form is made in `i128`
abbrev pub RowsFit : List Row → Type 0
RowsFit [] = Unit {0}
RowsFit (r ∷ rs) = NormalFits r × RowsFit rs
