-- Which choices of elimination stay in `i128`: each number that a choice forms, and those of the normal form of what it leaves.
use Rattle.std.specs.Prelude.{◌≡◌, Bool, true, false, ◌&&◌, cond, ℕ, ℤ, pos, ◌≤ℤ◌, ◌+ℤ◌, ◌-ℤ◌, ◌*ℤ◌, neg_ℤ, List, [], ◌∷◌, set, get_or, slice_get, Option, Some, None, Result, Ok, Err}
use Rattle.std.specs.Int.{int_div_euclid}
use Rattle.ac_forms.specs.Affine.{Affine, coef, combined}
use Rattle.ac_forms.specs.Fits.{fits}
use Rattle.ac_forms.specs.NormalForm.{normal_conj}
use Rattle.ac_forms.specs.Rows.{form_of}
use Rattle.ac_forms.specs.RangeTests.{can_combine, can_evaluate, rows_fit}
use Rattle.ac_forms.specs.declared.conj.Conj.{Conj}
use Rattle.ac_forms.specs.declared.row.Row.{Row}
use Rattle.ac_forms.specs.declared.row.Row.TheVariants.{Eq, Div, Ge}
use Rattle.ac_omega_steps.specs.declared.column.Bound.{Bound}
use Rattle.ac_omega_steps.specs.declared.choose.Choice.{Choice}
use Rattle.ac_omega_steps.specs.declared.choose.Choice.TheVariants as choice
use Rattle.ac_omega_steps.specs.declared.choose.StepStop.{StepStop}
use Rattle.ac_omega_steps.specs.declared.choose.StepStop.TheVariants as stop
use Rattle.ac_omega_steps.specs.Bounds.{is_low, is_high, is_none, lows, highs}
use Rattle.ac_omega_steps.specs.Choices.{size_of, against, others, rest_at, solved, left_by}

abbrev pub replaced_fits : ℕ → Affine → Affine → Bool
replaced_fits z g f = fits (against (coef z g) (coef z f)) && can_combine (size_of (coef z g)) f (against (coef z g) (coef z f)) g

abbrev pub replaced_row_fits : ℕ → Affine → Row → Bool
replaced_row_fits z g (Ge f) = replaced_fits z g f
replaced_row_fits z g (Eq f) = replaced_fits z g f
replaced_row_fits z g (Div m f) = fits (size_of (coef z g) *ℤ m) && replaced_fits z g f

abbrev pub all_replaced_fit : ℕ → Affine → List Row → Bool
all_replaced_fit z g [] = true
all_replaced_fit z g (r ∷ rs) = replaced_row_fits z g r && all_replaced_fit z g rs

abbrev pub equality_fits : ℕ → ℕ → Option Row → List Row → Bool
equality_fits z i (Some (Eq g)) rows = fits (size_of (coef z g)) && all_replaced_fit z g (others i rows)
equality_fits z i _ rows = true

abbrev pub spread_fits : ℤ → ℤ → ℤ → ℤ → Bool
spread_fits m r c konst = fits (c *ℤ m) && (fits (c *ℤ r) && fits (konst +ℤ c *ℤ r))

abbrev pub spread_row_fits : ℕ → ℤ → ℤ → Row → Bool
spread_row_fits z m r row = spread_fits m r (coef z (form_of row)) (form_of row).konst

abbrev pub all_spread_fit : ℕ → ℤ → ℤ → List Row → Bool
all_spread_fit z m r [] = true
all_spread_fit z m r (row ∷ rs) = spread_row_fits z m r row && all_spread_fit z m r rs

abbrev pub sizes_fit : List Bound → Bool
sizes_fit [] = true
sizes_fit (b ∷ bs) = fits b.size && sizes_fit bs

-- the size of a bound is at least 1
abbrev pub ArePositive : List Bound → Type 0
ArePositive [] = Unit {0}
ArePositive (b ∷ bs) = (pos 1 ≤ℤ b.size) × ArePositive bs

abbrev pub shadow_fits : Bound → Bound → Bool
shadow_fits low high =
    let product = (high.size -ℤ pos 1) *ℤ (low.size -ℤ pos 1) in
    can_combine high.size low.rest low.size high.rest && (fits product && fits ((combined high.size low.rest low.size high.rest).konst -ℤ product))

abbrev pub shadows_fit_with : Bound → List Bound → Bool
shadows_fit_with low [] = true
shadows_fit_with low (high ∷ hs) = shadow_fits low high && shadows_fit_with low hs

abbrev pub shadows_fit : List Bound → List Bound → Bool
shadows_fit [] hs = true
shadows_fit (low ∷ ls) hs = shadows_fit_with low hs && shadows_fit ls hs

abbrev pub splinter_fits : ℤ → Option Row → Bool
splinter_fits k (Some (Ge f)) = fits (f.konst -ℤ k)
splinter_fits k _ = true

-- the numbers of the rows that a choice leaves
abbrev pub choice_fits : Choice → List Row → Bool
choice_fits (choice.Drop z) rows = true
choice_fits (choice.Equal z i) rows = equality_fits z i (slice_get rows i) rows
choice_fits (choice.Residue z m r) rows = all_spread_fit z m r rows
choice_fits (choice.Shadow z) rows = sizes_fit (highs z rows) && shadows_fit (lows z rows) (highs z rows)
choice_fits (choice.Splinter z i k) rows = splinter_fits k (slice_get rows i)

-- the conjunction that a choice leaves, as it is written
abbrev pub raw : Choice → Conj → Conj
raw h c = record { columns = c.columns; rows = left_by h c.rows }

-- the normal form of what a choice leaves, where all numbers stay in `i128`
unfoldable pub after_choice : Choice → Conj → Option Conj
after_choice h c = cond (choice_fits h c.rows && rows_fit (left_by h c.rows)) (Some (normal_conj (raw h c))) None

-- the values of the lower rows stay in `i128` at a point without the column, and so does the least number that each of them allows
abbrev pub low_values_fit : ℕ → List Row → List ℤ → Bool
low_values_fit z [] p = true
low_values_fit z (Ge f ∷ rs) p = cond (is_low z f) (can_evaluate f (set p z (pos 0)) && (fits (neg_ℤ (int_div_euclid (rest_at z f p) (coef z f))) && low_values_fit z rs p)) (low_values_fit z rs p)
low_values_fit z (Eq f ∷ rs) p = low_values_fit z rs p
low_values_fit z (Div m f ∷ rs) p = low_values_fit z rs p

abbrev pub high_values_fit : ℕ → List Row → List ℤ → Bool
high_values_fit z [] p = true
high_values_fit z (Ge f ∷ rs) p = cond (is_high z f) (can_evaluate f (set p z (pos 0)) && (fits (neg_ℤ (coef z f)) && high_values_fit z rs p)) (high_values_fit z rs p)
high_values_fit z (Eq f ∷ rs) p = high_values_fit z rs p
high_values_fit z (Div m f ∷ rs) p = high_values_fit z rs p

-- upper rows are looked at only where there is no lower one
abbrev pub between_fits : ℕ → List Row → List ℤ → Bool
between_fits z rows p = cond (is_none (lows z rows)) (high_values_fit z rows p) (low_values_fit z rows p)

-- e, -e and -e / c for the equality c z + e = 0
abbrev pub solved_fits : ℕ → Option Row → List ℤ → Bool
solved_fits z (Some (Eq g)) p = can_evaluate g (set p z (pos 0)) && (fits (neg_ℤ (rest_at z g p)) && fits (solved z (Some (Eq g)) p))
solved_fits z _ p = true

-- the numbers of a point that is lifted
abbrev pub lift_fits : Choice → List Row → List ℤ → Bool
lift_fits (choice.Drop z) rows p = between_fits z rows p
lift_fits (choice.Equal z i) rows p = solved_fits z (slice_get rows i) p
lift_fits (choice.Residue z m r) rows p = fits (m *ℤ get_or p z (pos 0)) && fits (m *ℤ get_or p z (pos 0) +ℤ r)
lift_fits (choice.Shadow z) rows p = between_fits z rows p
lift_fits (choice.Splinter z i k) rows p = true

-- Ok with the value that is to be made; Illegal exactly where the choice is not legal, else Wide exactly where there is no such value. Want of memory may come at any time.
abbrev pub StepsTo : Bool → Option Conj → Result Conj StepStop → Type 0
StepsTo legal made (Ok d) = (legal ≡ true) × (made ≡ Some d)
StepsTo legal made (Err stop.Illegal) = legal ≡ false
StepsTo legal made (Err stop.Wide) = (legal ≡ true) × (made ≡ None)
StepsTo legal made (Err (stop.Memory e)) = Unit {0}
