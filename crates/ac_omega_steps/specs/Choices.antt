-- The choices of elimination (W. Pugh, The Omega test, 1991): where each is legal, which rows it leaves, and how a point of these goes back.
use Rattle.std.specs.Prelude.{ℕ, suc, Bool, true, false, not, ◌&&◌, cond, nat_lt, ℤ, pos, negsuc, ◌+ℤ◌, ◌-ℤ◌, ◌*ℤ◌, neg_ℤ, int_div, int_le, unsigned_abs, List, [], ◌∷◌, ◌++◌, map, take, drop, set, get_or, slice_get, Option, Some}
use Rattle.std.specs.Int.{int_div_euclid, int_max, int_min}
use Rattle.std.specs.Int.Signed.{lt_z}
use Rattle.std.specs.Ordering.{int_eq}
use Rattle.ac_base.specs.Multiple.{divides}
use Rattle.ac_forms.specs.Affine.{Affine, coef, combined, value_at}
use Rattle.ac_forms.specs.declared.conj.Conj.{Conj}
use Rattle.ac_forms.specs.declared.row.Row.{Row}
use Rattle.ac_forms.specs.declared.row.Row.TheVariants.{Eq, Div, Ge}
use Rattle.ac_omega_steps.specs.declared.column.Bound.{Bound}
use Rattle.ac_omega_steps.specs.declared.choose.Choice.{Choice}
use Rattle.ac_omega_steps.specs.declared.choose.Choice.TheVariants as choice
use Rattle.ac_omega_steps.specs.Bounds.{without, is_low, is_high, lows, highs, rows_without, only_bounds, is_one_sided}
use Rattle.ac_forms.specs.RowColumns.{has_column}

-- the column that goes
abbrev pub column_of : Choice → ℕ
column_of (choice.Drop z) = z
column_of (choice.Equal z i) = z
column_of (choice.Residue z m r) = z
column_of (choice.Shadow z) = z
column_of (choice.Splinter z i k) = z

-- the choices after which no row has the column
abbrev pub removes : Choice → Bool
removes (choice.Drop z) = true
removes (choice.Equal z i) = true
removes (choice.Residue z m r) = false
removes (choice.Shadow z) = true
removes (choice.Splinter z i k) = false

-- the absurd conjunction's rows: `-1 >= 0` alone
abbrev pub are_absurd : List Row → Bool
are_absurd (Ge f ∷ []) = no_coefs f.coefs && int_eq f.konst (negsuc 0)
  where
    no_coefs : List ℤ → Bool
    no_coefs [] = true
    no_coefs (c ∷ cs) = false
are_absurd _ = false

-- an equality that has the column
abbrev pub is_equality_of : ℕ → Option Row → Bool
is_equality_of z (Some (Eq f)) = has_column z (Eq f)
is_equality_of z _ = false

-- a lower row of the column
abbrev pub is_lower_row : ℕ → Option Row → Bool
is_lower_row z (Some (Ge f)) = is_low z f
is_lower_row z _ = false

-- the number is a multiple of the moduli of all `Div` rows with the column
abbrev pub is_common_multiple : ℕ → ℤ → List Row → Bool
is_common_multiple z m [] = true
is_common_multiple z m (Div n f ∷ rs) = cond (has_column z (Div n f)) (divides (unsigned_abs n) m && is_common_multiple z m rs) (is_common_multiple z m rs)
is_common_multiple z m (Ge f ∷ rs) = is_common_multiple z m rs
is_common_multiple z m (Eq f ∷ rs) = is_common_multiple z m rs

-- the rows allow the choice
abbrev pub allows : Choice → List Row → Bool
allows (choice.Drop z) rows = only_bounds z rows && is_one_sided z rows
allows (choice.Equal z i) rows = is_equality_of z (slice_get rows i)
allows (choice.Residue z m r) rows = int_le (pos 1) m && (is_common_multiple z m rows && (int_le (pos 0) r && lt_z r m))
allows (choice.Shadow z) rows = only_bounds z rows
allows (choice.Splinter z i k) rows = is_lower_row z (slice_get rows i) && int_le (pos 0) k

-- the choice is legal: its column is one of the conjunction's, which is not absurd and allows it
abbrev pub is_legal : Choice → Conj → Bool
is_legal h c = not (are_absurd c.rows) && (nat_lt (column_of h) c.columns && allows h c.rows)

abbrev pub size_of : ℤ → ℤ
size_of c = pos (unsigned_abs c)

-- k with the sign that is opposite to that of c
abbrev pub against : ℤ → ℤ → ℤ
against c k = cond (lt_z c (pos 0)) k (neg_ℤ k)

-- the absolute value of c times the form f, where the equality c z + e = 0 replaces the column
abbrev pub replaced : ℕ → Affine → Affine → Affine
replaced z g f = combined (size_of (coef z g)) f (against (coef z g) (coef z f)) g

abbrev pub replaced_row : ℕ → Affine → Row → Row
replaced_row z g (Ge f) = Ge (replaced z g f)
replaced_row z g (Eq f) = Eq (replaced z g f)
replaced_row z g (Div m f) = Div (size_of (coef z g) *ℤ m) (replaced z g f)

-- all rows but the one at a place
abbrev pub others : ℕ → List Row → List Row
others i rows = take i rows ++ drop (suc i) rows

-- the other rows, where the equality at a place replaces the column, and that its coefficient divides the rest of it
abbrev pub by_equality : ℕ → ℕ → Option Row → List Row → List Row
by_equality z i (Some (Eq g)) rows = map (replaced_row z g) (others i rows) ++ Div (size_of (coef z g)) (without z g) ∷ []
by_equality z i _ rows = rows

-- the form at `m z + r` in place of the column z
abbrev pub substitute_residue : ℕ → ℤ → ℤ → Affine → Affine
substitute_residue z m r f = record { konst = f.konst +ℤ coef z f *ℤ r; coefs = set f.coefs z (coef z f *ℤ m) }

abbrev pub substitute_residue_row : ℕ → ℤ → ℤ → Row → Row
substitute_residue_row z m r (Ge f) = Ge (substitute_residue z m r f)
substitute_residue_row z m r (Eq f) = Eq (substitute_residue z m r f)
substitute_residue_row z m r (Div n f) = Div n (substitute_residue z m r f)

-- the dark shadow of a lower row b z + e >= 0 and an upper row -a z + f >= 0: a e + b f - (a - 1) (b - 1)
abbrev pub shadow_form : Bound → Bound → Affine
shadow_form low high =
    let s = combined high.size low.rest low.size high.rest in
    record { konst = s.konst -ℤ (high.size -ℤ pos 1) *ℤ (low.size -ℤ pos 1); coefs = s.coefs }

abbrev pub shadows_with : Bound → List Bound → List Row
shadows_with low [] = []
shadows_with low (high ∷ hs) = Ge (shadow_form low high) ∷ shadows_with low hs

-- those of all lower and upper rows, in order
abbrev pub shadows : List Bound → List Bound → List Row
shadows [] hs = []
shadows (low ∷ ls) hs = shadows_with low hs ++ shadows ls hs

-- the lower row at a place is worth k
abbrev pub splinter : ℤ → Option Row → List Row → List Row
splinter k (Some (Ge f)) rows = rows ++ Eq (record { konst = f.konst -ℤ k; coefs = f.coefs }) ∷ []
splinter k _ rows = rows

-- the rows that a choice leaves, not yet in normal form
abbrev pub left_by : Choice → List Row → List Row
left_by (choice.Drop z) rows = rows_without z rows
left_by (choice.Equal z i) rows = by_equality z i (slice_get rows i) rows
left_by (choice.Residue z m r) rows = map (substitute_residue_row z m r) rows
left_by (choice.Shadow z) rows = rows_without z rows ++ shadows (lows z rows) (highs z rows)
left_by (choice.Splinter z i k) rows = splinter k (slice_get rows i) rows

-- the value of the form at the point without the column
abbrev pub rest_at : ℕ → Affine → List ℤ → ℤ
rest_at z f p = value_at f (set p z (pos 0))

-- the least numbers for the column that its lower rows allow at the point
abbrev pub low_values : ℕ → List Row → List ℤ → List ℤ
low_values z [] p = []
low_values z (Ge f ∷ rs) p = cond (is_low z f) (neg_ℤ (int_div_euclid (rest_at z f p) (coef z f)) ∷ low_values z rs p) (low_values z rs p)
low_values z (Eq f ∷ rs) p = low_values z rs p
low_values z (Div m f ∷ rs) p = low_values z rs p

-- the greatest ones that its upper rows allow
abbrev pub high_values : ℕ → List Row → List ℤ → List ℤ
high_values z [] p = []
high_values z (Ge f ∷ rs) p = cond (is_high z f) (int_div_euclid (rest_at z f p) (neg_ℤ (coef z f)) ∷ high_values z rs p) (high_values z rs p)
high_values z (Eq f ∷ rs) p = high_values z rs p
high_values z (Div m f ∷ rs) p = high_values z rs p

abbrev pub greatest : ℤ → List ℤ → ℤ
greatest v [] = v
greatest v (w ∷ ws) = int_max v (greatest w ws)

abbrev pub least : ℤ → List ℤ → ℤ
least v [] = v
least v (w ∷ ws) = int_min v (least w ws)

-- the least number above all lower bounds; without one, the greatest below all upper bounds; without bounds, 0
abbrev pub between : List ℤ → List ℤ → ℤ
between (v ∷ vs) hs = greatest v vs
between [] (v ∷ vs) = least v vs
between [] [] = pos 0

-- `-e / c` for the equality c z + e = 0
abbrev pub solved : ℕ → Option Row → List ℤ → ℤ
solved z (Some (Eq g)) p = int_div (neg_ℤ (rest_at z g p)) (coef z g)
solved z _ p = pos 0

-- the point of the conjunction that a point of the choice's result goes back to
abbrev pub lifted : Choice → List Row → List ℤ → List ℤ
lifted (choice.Drop z) rows p = set p z (between (low_values z rows p) (high_values z rows p))
lifted (choice.Equal z i) rows p = set p z (solved z (slice_get rows i) p)
lifted (choice.Residue z m r) rows p = set p z (m *ℤ get_or p z (pos 0) +ℤ r)
lifted (choice.Shadow z) rows p = set p z (between (low_values z rows p) (high_values z rows p))
lifted (choice.Splinter z i k) rows p = p
