-- When a row stands among rows: where its normal form says nothing, or is that of one of them.
use Rattle.std.specs.Prelude.{Bool, true, false, ◌&&◌, ◌||◌, List, [], ◌∷◌, Option, Some, None, cond}
use Rattle.ac_forms.specs.NormalRows.{normal_row}
use Rattle.ac_forms.specs.FormOrder.{row_eq}
use Rattle.ac_forms.specs.RangeTests.{normal_fits}
use Rattle.ac_forms.specs.declared.normal.NormalRow.{NormalRow}
use Rattle.ac_forms.specs.declared.normal.NormalRow.TheVariants.{Kept, Dropped, Absurd}
use Rattle.ac_forms.specs.declared.row.Row.{Row}

-- the row is one of the rows
abbrev pub is_among : Row → List Row → Bool
is_among r [] = false
is_among r (s ∷ ss) = row_eq s r || is_among r ss

-- the normal form of a row, where it is made in `i128`
abbrev pub normal_of : Row → Option NormalRow
normal_of r = cond (normal_fits r) (Some (normal_row r)) None

abbrev pub kept_onto : Option NormalRow → List Row → List Row
kept_onto (Some (Kept r)) rs = r ∷ rs
kept_onto (Some Dropped) rs = rs
kept_onto (Some Absurd) rs = rs
kept_onto None rs = rs

-- the normal forms of rows that say something, in their order; a row without one in `i128` is passed over
abbrev pub kept_rows : List Row → List Row
kept_rows [] = []
kept_rows (r ∷ rs) = kept_onto (normal_of r) (kept_rows rs)

-- what is left of a row is one of these rows, or says nothing
abbrev pub is_left_among : Option NormalRow → List Row → Bool
is_left_among (Some (Kept r)) kept = is_among r kept
is_left_among (Some Dropped) kept = true
is_left_among (Some Absurd) kept = false
is_left_among None kept = false

-- the row stands among rows with these normal forms
abbrev pub stands_among : List Row → Row → Bool
stands_among kept r = is_left_among (normal_of r) kept

-- the row stands among the rows: it has a normal form in `i128`, which says nothing or is that of one of the rows
abbrev pub stands : List Row → Row → Bool
stands rows r = stands_among (kept_rows rows) r

-- each of some rows stands among the rows
abbrev pub all_stand_among : List Row → List Row → Bool
all_stand_among kept [] = true
all_stand_among kept (r ∷ rs) = stands_among kept r && all_stand_among kept rs

abbrev pub all_stand : List Row → List Row → Bool
all_stand rows rs = all_stand_among (kept_rows rows) rs
