-- Tests by which the dark shadow of a pair loses nothing: it has the normal form of the real one, or rows without the column imply it.
use Rattle.std.specs.Int.{int_max}
use Rattle.std.specs.Ordering.{is_eq}
use Rattle.std.specs.Prelude.{ℕ, ℤ, pos, cond, Bool, true, false, ◌&&◌, ◌||◌, int_le, List, [], ◌∷◌}
use Rattle.ac_forms.specs.Affine.{Affine, added}
use Rattle.ac_forms.specs.Fits.{fits}
use Rattle.ac_forms.specs.NormalRows.{normal_ge}
use Rattle.ac_forms.specs.FormOrder.{columns_cmp, form_eq}
use Rattle.ac_forms.specs.RangeTests.{normal_fits}
use Rattle.ac_forms.specs.declared.row.Row.{Row}
use Rattle.ac_forms.specs.declared.row.Row.TheVariants.{Eq, Div, Ge}
use Rattle.ac_forms.specs.declared.normal.NormalRow.{NormalRow}
use Rattle.ac_forms.specs.declared.normal.NormalRow.TheVariants.{Kept, Dropped, Absurd}
use Rattle.ac_omega_steps.specs.declared.column.Bound.{Bound}
use Rattle.ac_omega_steps.specs.Bounds.{low_bound, highs, rows_without, greatest_size}
use Rattle.ac_omega_steps.specs.ChoiceFits.{shadow_fits}
use Rattle.ac_omega_steps.specs.Choices.{shadow_form}
use Rattle.ac_omega_exact.specs.Exact.{real_form, Needs}

-- the same of two inequalities is left
abbrev pub is_same_left : NormalRow → NormalRow → Bool
is_same_left (Kept (Ge f)) (Kept (Ge g)) = form_eq f g
is_same_left Dropped Dropped = true
is_same_left Absurd Absurd = true
is_same_left _ _ = false

-- f >= 0 implies g >= 0: column by column the same coefficients, and at most the constant
abbrev pub is_at_most : Affine → Affine → Bool
is_at_most f g = is_eq (columns_cmp f.coefs g.coefs) && int_le f.konst g.konst

-- one of the rows alone implies the form
abbrev pub is_implied_by_one : List Row → Affine → Bool
is_implied_by_one [] g = false
is_implied_by_one (Ge f ∷ rs) g = is_at_most f g || is_implied_by_one rs g
is_implied_by_one (Eq f ∷ rs) g = is_implied_by_one rs g
is_implied_by_one (Div m f ∷ rs) g = is_implied_by_one rs g

-- the sum of f and one of the rows does
abbrev pub is_implied_with : Affine → List Row → Affine → Bool
is_implied_with f [] g = false
is_implied_with f (Ge h ∷ rs) g = is_at_most (added f h) g || is_implied_with f rs g
is_implied_with f (Eq h ∷ rs) g = is_implied_with f rs g
is_implied_with f (Div m h ∷ rs) g = is_implied_with f rs g

-- the sum of one of the first rows and one of the second does
abbrev pub is_implied_by_two : List Row → List Row → Affine → Bool
is_implied_by_two [] rs g = false
is_implied_by_two (Ge f ∷ fs) rs g = is_implied_with f rs g || is_implied_by_two fs rs g
is_implied_by_two (Eq f ∷ fs) rs g = is_implied_by_two fs rs g
is_implied_by_two (Div m f ∷ fs) rs g = is_implied_by_two fs rs g

-- one of the rows, or the sum of two of them, implies the inequality that is left
abbrev pub is_implied : List Row → NormalRow → Bool
is_implied rs (Kept (Ge g)) = is_implied_by_one rs g || is_implied_by_two rs rs g
is_implied rs _ = false

-- the pair is exact beside the rows: the same is left of its dark and its real shadow, or rows without the column imply the dark one
abbrev pub is_exact : ℕ → List Row → Bound → Bound → Bool
is_exact z rows low high =
    is_same_left (normal_ge (shadow_form low high)) (normal_ge (real_form low high)) || is_implied (rows_without z rows) (normal_ge (shadow_form low high))

-- the greatest size of the upper bounds that do not pass a test, 1 where all pass
abbrev pub greatest_failing : (Bound → Bool) → List Bound → ℤ
greatest_failing passes [] = pos 1
greatest_failing passes (h ∷ hs) = cond (passes h) (greatest_failing passes hs) (int_max h.size (greatest_failing passes hs))

-- the greatest size of the upper rows whose pair with the lower row is not exact, 1 where each one is: then there are no splinters, as the last one is -1
abbrev pub economical : ℕ → List Row → Needs
economical z rows f = greatest_failing (is_exact z rows (low_bound z f)) (highs z rows)

-- the greatest size of all upper rows
abbrev pub full : ℕ → List Row → Needs
full z rows f = greatest_size (highs z rows)

-- the numbers of the dark shadow, and those of its normal form, stay in `i128`
abbrev pub pair_fits : Bound → Bound → Bool
pair_fits low high = fits high.size && (shadow_fits low high && normal_fits (Ge (shadow_form low high)))

-- those of the lower bound with each upper one
abbrev pub pairs_fit : Bound → List Bound → Bool
pairs_fit low [] = true
pairs_fit low (h ∷ hs) = pair_fits low h && pairs_fit low hs
