-- The rows that stand on the path for the dark shadows of a column: each has the normal form of its shadow (W. Pugh, The Omega test, 1991).
use Rattle.std.specs.Prelude.{◌≡◌, ℕ, true, cond, ℤ, pos, List, [], ◌∷◌, ◌++◌}
use Rattle.ac_forms.specs.Affine.{Affine}
use Rattle.ac_forms.specs.NormalForm.{normal_form}
use Rattle.ac_forms.specs.NormalRows.{normal_ge}
use Rattle.ac_forms.specs.Rows.{AreRowsOver}
use Rattle.ac_forms.specs.RangeTests.{rows_fit}
use Rattle.ac_forms.specs.declared.row.Row.{Row}
use Rattle.ac_forms.specs.declared.row.Row.TheVariants.{Eq, Div, Ge}
use Rattle.ac_forms.specs.declared.normal.NormalRow.{NormalRow}
use Rattle.ac_forms.specs.declared.normal.NormalRow.TheVariants.{Kept, Dropped, Absurd}
use Rattle.ac_omega_steps.specs.declared.column.Bound.{Bound}
use Rattle.ac_omega_steps.specs.Bounds.{is_low, low_bound, highs}
use Rattle.ac_omega_steps.specs.Choices.{shadow_form}
use Rattle.ac_omega_exact.specs.Exact.{real_form}
use Rattle.ac_omega_exact.specs.ExactnessTests.{is_same_left}
use Rattle.ac_omega_certify.specs.SplinterCounts.{is_enough}

-- the form of what is left of an inequality, the form itself where no row is left
abbrev pub left_or : Affine → NormalRow → Affine
left_or f (Kept (Ge g)) = g
left_or f (Kept (Eq g)) = f
left_or f (Kept (Div m g)) = f
left_or f Dropped = f
left_or f Absurd = f

-- the dark shadow where the lower row stands less enough; the real one where the same is left of both; else the normal form of the dark one, which rows without the column imply
abbrev pub shown_form : ℤ → Bound → Bound → Affine
shown_form n low high =
    cond (is_enough n low high) (shadow_form low high)
    (cond (is_same_left (normal_ge (shadow_form low high)) (normal_ge (real_form low high))) (real_form low high) (left_or (shadow_form low high) (normal_ge (shadow_form low high))))

-- those of a lower bound, which stands less n, and each upper one
abbrev pub shown_with : ℤ → Bound → List Bound → List Row
shown_with n low [] = []
shown_with n low (h ∷ hs) = Ge (shown_form n low h) ∷ shown_with n low hs

-- those of each lower row among the last ones of all rows, which stands less its number, and each upper one
abbrev pub shown_rows : ℕ → List Row → List Row → List ℕ → List Row
shown_rows z all [] ns = []
shown_rows z all (r ∷ rs) [] = []
shown_rows z all (Ge f ∷ rs) (n ∷ ns) = cond (is_low z f) (shown_with (pos n) (low_bound z f) (highs z all)) [] ++ shown_rows z all rs ns
shown_rows z all (Eq f ∷ rs) (n ∷ ns) = shown_rows z all rs ns
shown_rows z all (Div m f ∷ rs) (n ∷ ns) = shown_rows z all rs ns

-- rows that may stand in the place of others over so many columns: well made and with numbers in `i128` where those are, and with the same normal form
pub record StandFor (n : ℕ) (rs ss : List Row) : Type 0 where
  pub made : AreRowsOver n ss → AreRowsOver n rs
  pub fits : rows_fit ss ≡ true → rows_fit rs ≡ true
  pub normal : normal_form rs ≡ normal_form ss
