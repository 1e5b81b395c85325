-- The bounds of one column in a list of rows.
use Rattle.std.specs.Prelude.{ℕ, Bool, true, false, not, ◌&&◌, ◌||◌, cond, ℤ, pos, ◌-ℤ◌, ◌*ℤ◌, neg_ℤ, List, [], ◌∷◌, set}
use Rattle.std.specs.Int.{int_div_euclid, int_max}
use Rattle.std.specs.Int.Signed.{lt_z}
use Rattle.ac_forms.specs.Affine.{Affine, coef}
use Rattle.ac_forms.specs.RowColumns.{has_column}
use Rattle.ac_forms.specs.declared.row.Row.{Row}
use Rattle.ac_forms.specs.declared.row.Row.TheVariants.{Eq, Div, Ge}
use Rattle.ac_omega_steps.specs.declared.column.Bound.{Bound}

-- the form without the column
abbrev pub without : ℕ → Affine → Affine
without z f = record { konst = f.konst; coefs = set f.coefs z (pos 0) }

-- the form bounds the column from below: its coefficient is positive
abbrev pub is_low : ℕ → Affine → Bool
is_low z f = lt_z (pos 0) (coef z f)

-- the form bounds the column from above: its coefficient is negative
abbrev pub is_high : ℕ → Affine → Bool
is_high z f = lt_z (coef z f) (pos 0)

-- the bound `b z + e >= 0` as b and e, the bound `-a z + f >= 0` as a and f
abbrev pub low_bound : ℕ → Affine → Bound
low_bound z f = record { size = coef z f; rest = without z f }

abbrev pub high_bound : ℕ → Affine → Bound
high_bound z f = record { size = neg_ℤ (coef z f); rest = without z f }

-- the lower rows of the column, in order
abbrev pub lows : ℕ → List Row → List Bound
lows z [] = []
lows z (Ge f ∷ rs) = cond (is_low z f) (low_bound z f ∷ lows z rs) (lows z rs)
lows z (Eq f ∷ rs) = lows z rs
lows z (Div m f ∷ rs) = lows z rs

-- its upper rows, in order
abbrev pub highs : ℕ → List Row → List Bound
highs z [] = []
highs z (Ge f ∷ rs) = cond (is_high z f) (high_bound z f ∷ highs z rs) (highs z rs)
highs z (Eq f ∷ rs) = highs z rs
highs z (Div m f ∷ rs) = highs z rs

-- the rows without the column
abbrev pub rows_without : ℕ → List Row → List Row
rows_without z [] = []
rows_without z (r ∷ rs) = cond (has_column z r) (rows_without z rs) (r ∷ rows_without z rs)

-- only `Ge` rows have the column
abbrev pub only_bounds : ℕ → List Row → Bool
only_bounds z [] = true
only_bounds z (Ge f ∷ rs) = only_bounds z rs
only_bounds z (Eq f ∷ rs) = not (has_column z (Eq f)) && only_bounds z rs
only_bounds z (Div m f ∷ rs) = not (has_column z (Div m f)) && only_bounds z rs

abbrev pub is_none : List Bound → Bool
is_none [] = true
is_none (b ∷ bs) = false

-- the rows bound the column from one side only, or not at all
abbrev pub is_one_sided : ℕ → List Row → Bool
is_one_sided z rows = is_none (lows z rows) || is_none (highs z rows)

-- the greatest size of the upper rows, 0 where there is none
abbrev pub greatest_size : List Bound → ℤ
greatest_size [] = pos 0
greatest_size (b ∷ bs) = int_max b.size (greatest_size bs)

-- the last splinter of a lower row with coefficient b, where a is the greatest size of an upper row: the quotient of a b - a - b by a, rounded down
abbrev pub last_splinter : ℤ → ℤ → ℤ
last_splinter a b = int_div_euclid (a *ℤ b -ℤ a -ℤ b) a
