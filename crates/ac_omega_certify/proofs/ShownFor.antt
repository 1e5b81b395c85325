-- The rows that are shown for the dark shadows of a column may stand in their place.
use Rattle.std.proofs.Common.{◌≡◌, inr, ◌==◌, ℕ, ◌≤◌, ◌*◌, ◌^◌, Bool, true, false, cond, ℤ, pos, int_le, List, [], ◌∷◌, ◌++◌, length, refl, sym, ap, ◌∙◌, arith}
use Rattle.std.specs.Ordering.{int_eq}
use Rattle.std.specs.Int.{int_div_euclid}
use Rattle.std.proofs.lemmas.List.{length-map}
use Rattle.ac_base.specs.Dot.{floored}
use Rattle.ac_base.specs.Gcd.{content}
use Rattle.ac_forms.specs.Affine.{Affine, coef}
use Rattle.ac_forms.specs.NormalForm.{left_onto, left_rows, has_absurd, normal_form}
use Rattle.ac_forms.specs.NormalRows.{trim, trim_onto, normal_row, normal_ge, divided}
use Rattle.ac_forms.specs.Rows.{IsRowOver, AreRowsOver}
use Rattle.ac_forms.specs.RangeTests.{normal_fits, rows_fit}
use Rattle.ac_forms.specs.declared.row.Row.{Row}
use Rattle.ac_forms.specs.declared.row.Row.TheVariants.{Eq, Div, Ge}
use Rattle.ac_forms.specs.declared.normal.NormalRow.{NormalRow}
use Rattle.ac_forms.specs.declared.normal.NormalRow.TheVariants.{Kept, Dropped, Absurd}
use Rattle.ac_omega_steps.specs.declared.column.Bound.{Bound}
use Rattle.ac_omega_steps.specs.declared.choose.Choice.TheVariants as choice
use Rattle.ac_omega_steps.specs.Bounds.{is_low, is_high, low_bound, high_bound, lows, highs, rows_without}
use Rattle.ac_omega_steps.specs.Choices.{shadow_form, shadows_with, shadows, left_by}
use Rattle.ac_base.proofs.Truths.{and-true}
use Rattle.ac_omega_exact.specs.Exact.{real_form}
use Rattle.ac_omega_exact.specs.ExactnessTests.{is_same_left}
use Rattle.ac_omega_exact.proofs.Again.{again-ge}
use Rattle.ac_omega_certify.specs.Descents.{IsFormUpTo2To122, AreRowsUpTo2To122}
use Rattle.ac_omega_certify.specs.Refutations.{AreWithin2To120, AreRowsWithin, IsFormWithin}
use Rattle.ac_omega_certify.specs.ShadowRows.{left_or, shown_form, shown_with, shown_rows, StandFor}
use Rattle.ac_omega_certify.specs.SplinterCounts.{is_enough}
use Rattle.ac_omega_certify.proofs.Enough.{low-size}
use Rattle.ac_omega_certify.proofs.Moderate.{calm-append}
use Rattle.ac_omega_certify.proofs.SameRows.{same-row}
use Rattle.ac_omega_certify.proofs.ShownSizes.{shown-moderate, moderate-fits}

-- ---- one row in the place of another

record IsFor (r s : Row) : Type 0 where
  left : normal_row r ≡ normal_row s
  over : (n : ℕ) → IsRowOver n s → IsRowOver n r
  fits : normal_fits s ≡ true → normal_fits r ≡ true

-- in turn
abbrev AreFor : List Row → List Row → Type 0
AreFor [] [] = Unit {0}
AreFor (r ∷ rs) (s ∷ ss) = IsFor r s × AreFor rs ss
AreFor _ _ = ⊥

self-for : (rs : List Row) → AreFor rs rs
self-for [] = tt
self-for (r ∷ rs) = (record { left = refl; over = λ n h. h; fits = λ e. e }, self-for rs)

both-for : (rs ss rs' ss' : List Row) → AreFor rs ss → AreFor rs' ss' → AreFor (rs ++ rs') (ss ++ ss')
both-for [] [] rs' ss' s t = t
both-for [] (x ∷ ss) rs' ss' s t = absurd s
both-for (r ∷ rs) [] rs' ss' s t = absurd s
both-for (r ∷ rs) (x ∷ ss) rs' ss' s t = (s.0, both-for rs ss rs' ss' s.1 t)

for-rows : (rs ss : List Row) → AreFor rs ss → left_rows rs ≡ left_rows ss
for-rows [] [] s = refl
for-rows [] (x ∷ ss) s = absurd s
for-rows (r ∷ rs) [] s = absurd s
for-rows (r ∷ rs) (x ∷ ss) s = ap (λ (l : NormalRow). left_onto l (left_rows rs)) s.0.left ∙ ap (λ (ls : List Row). left_onto (normal_row x) ls) (for-rows rs ss s.1)

for-absurd : (rs ss : List Row) → AreFor rs ss → has_absurd rs ≡ has_absurd ss
for-absurd [] [] s = refl
for-absurd [] (x ∷ ss) s = absurd s
for-absurd (r ∷ rs) [] s = absurd s
for-absurd (r ∷ rs) (x ∷ ss) s = rw (s.0.left, for-absurd rs ss s.1) refl

for-over : (n : ℕ) (rs ss : List Row) → AreFor rs ss → AreRowsOver n ss → AreRowsOver n rs
for-over n [] [] s h = tt
for-over n [] (x ∷ ss) s h = absurd s
for-over n (r ∷ rs) [] s h = absurd s
for-over n (r ∷ rs) (x ∷ ss) s h = (s.0.over n h.0, for-over n rs ss s.1 h.1)

for-fits : (rs ss : List Row) → AreFor rs ss → rows_fit ss ≡ true → rows_fit rs ≡ true
for-fits [] [] s h = refl
for-fits [] (x ∷ ss) s h = absurd s
for-fits (r ∷ rs) [] s h = absurd s
for-fits (r ∷ rs) (x ∷ ss) s h =
    let t = and-true (normal_fits x) (rows_fit ss) h in
    rw (s.0.fits t.0, for-fits rs ss s.1 t.1) refl

stand-for : (n : ℕ) (rs ss : List Row) → AreFor rs ss → StandFor n rs ss
stand-for n rs ss s = record { made = for-over n rs ss s; fits = for-fits rs ss s; normal = rw (for-absurd rs ss s, for-rows rs ss s) refl }

-- the same rows
pub stand-same : (n : ℕ) (rs ss : List Row) → rs ≡ ss → StandFor n rs ss
stand-same n rs ss e = record { made = λ h. rw e h; fits = λ h. rw e h; normal = ap normal_form e }

-- ---- what is left of a form that is shown

same-left-is : (a b : NormalRow) → is_same_left a b ≡ true → a ≡ b
same-left-is (Kept (Ge f)) (Kept (Ge g)) e = ap Kept (same-row (Ge f) (Ge g) e)
same-left-is (Kept (Ge f)) (Kept (Eq g)) e = absurd cc
same-left-is (Kept (Ge f)) (Kept (Div m g)) e = absurd cc
same-left-is (Kept (Ge f)) Dropped e = absurd cc
same-left-is (Kept (Ge f)) Absurd e = absurd cc
same-left-is (Kept (Eq f)) b e = absurd cc
same-left-is (Kept (Div m f)) b e = absurd cc
same-left-is Dropped (Kept r) e = absurd cc
same-left-is Dropped Dropped e = refl
same-left-is Dropped Absurd e = absurd cc
same-left-is Absurd (Kept r) e = absurd cc
same-left-is Absurd Dropped e = absurd cc
same-left-is Absurd Absurd e = refl

-- what is left of an inequality leaves itself
left-again : (f : Affine) → normal_ge (left_or f (normal_ge f)) ≡ normal_ge f
left-again f = by (content f.coefs == 0) (int_le (pos 0) f.konst) refl refl
  where
    by : (t u : Bool) → (content f.coefs == 0) ≡ t → int_le (pos 0) f.konst ≡ u → normal_ge (left_or f (cond t (cond u Dropped Absurd) (Kept (Ge (divided (pos (content f.coefs)) f))))) ≡ cond t (cond u Dropped Absurd) (Kept (Ge (divided (pos (content f.coefs)) f)))
    by true true e d = rw (e, d) refl
    by true false e d = rw (e, d) refl
    by false u e d = again-ge f e

trim_onto-length : (c : ℤ) (ds : List ℤ) → length (trim_onto c ds) ≤ length (c ∷ ds)
trim_onto-length c [] = elim (int_eq c (pos 0)) as (λ b. length (cond b [] (c ∷ [])) ≤ 1) [ true ↦ omega arith | false ↦ omega arith ]
trim_onto-length c (d ∷ ds) = omega arith

trim-length : (cs : List ℤ) → length (trim cs) ≤ length cs
trim-length [] = omega arith
trim-length (c ∷ cs) = omega (arith, trim_onto-length c (trim cs), trim-length cs)

left-length : (f : Affine) → length (left_or f (normal_ge f)).coefs ≤ length f.coefs
left-length f = by (content f.coefs == 0) (int_le (pos 0) f.konst)
  where
    by : (t u : Bool) → length (left_or f (cond t (cond u Dropped Absurd) (Kept (Ge (divided (pos (content f.coefs)) f))))).coefs ≤ length f.coefs
    by true true = omega arith
    by true false = omega arith
    by false u = omega (arith, trim-length (floored (pos (content f.coefs)) f.coefs), length-map f.coefs (λ (c : ℤ). int_div_euclid c (pos (content f.coefs))))

shown-left : (n : ℤ) (low high : Bound) → normal_ge (shown_form n low high) ≡ normal_ge (shadow_form low high)
shown-left n low high = by (is_enough n low high) (is_same_left (normal_ge (shadow_form low high)) (normal_ge (real_form low high))) refl
  where
    by : (t u : Bool) → is_same_left (normal_ge (shadow_form low high)) (normal_ge (real_form low high)) ≡ u
        → normal_ge (cond t (shadow_form low high) (cond u (real_form low high) (left_or (shadow_form low high) (normal_ge (shadow_form low high))))) ≡ normal_ge (shadow_form low high)
    by true u e = refl
    by false true e = sym (same-left-is (normal_ge (shadow_form low high)) (normal_ge (real_form low high)) e)
    by false false e = left-again (shadow_form low high)

shown-length : (n : ℤ) (low high : Bound) → length (shown_form n low high).coefs ≤ length (shadow_form low high).coefs
shown-length n low high = by (is_enough n low high) (is_same_left (normal_ge (shadow_form low high)) (normal_ge (real_form low high)))
  where
    by : (t u : Bool) → length (cond t (shadow_form low high) (cond u (real_form low high) (left_or (shadow_form low high) (normal_ge (shadow_form low high))))).coefs ≤ length (shadow_form low high).coefs
    by true u = omega arith
    by false true = omega arith
    by false false = left-length (shadow_form low high)

one-for : (z : ℕ) (f g : Affine) (n : ℤ) → IsFormUpTo2To122 (shown_form n (low_bound z f) (high_bound z g)) → IsFor (Ge (shown_form n (low_bound z f) (high_bound z g))) (Ge (shadow_form (low_bound z f) (high_bound z g)))
one-for z f g n m = record {
  left = shown-left n (low_bound z f) (high_bound z g);
  over = λ k h. (omega (arith, shown-length n (low_bound z f) (high_bound z g), h.0), tt);
  fits = λ e. moderate-fits (shown_form n (low_bound z f) (high_bound z g)) m;
}

-- rows in the place of others, up to 2^122
record AreRowsUpTo2To122For (rs ss : List Row) : Type 0 where
  up_to_2_to_122 : AreRowsUpTo2To122 rs
  each : AreFor rs ss

none-for : AreRowsUpTo2To122For [] []
none-for = record { up_to_2_to_122 = tt; each = tt }

append-for : (rs ss rs' ss' : List Row) → AreRowsUpTo2To122For rs ss → AreRowsUpTo2To122For rs' ss' → AreRowsUpTo2To122For (rs ++ rs') (ss ++ ss')
append-for rs ss rs' ss' h k = record { up_to_2_to_122 = calm-append rs rs' h.up_to_2_to_122 k.up_to_2_to_122; each = both-for rs ss rs' ss' h.each k.each }

-- those of a lower row
with-for : (z p q : ℕ) (f : Affine) (n : ℤ) (rows : List Row) → p * q ≤ 2 ^ 120 → IsFormWithin p q f → is_low z f ≡ true → AreRowsWithin p q rows → AreRowsUpTo2To122For (shown_with n (low_bound z f) (highs z rows)) (shadows_with (low_bound z f) (highs z rows))
with-for z p q f n [] l w h k = none-for
with-for z p q f n (Eq g ∷ rows) l w h k = with-for z p q f n rows l w h k.1
with-for z p q f n (Div m g ∷ rows) l w h k = with-for z p q f n rows l w h k.1
with-for z p q f n (Ge g ∷ rows) l w h k = by (is_high z g) refl (with-for z p q f n rows l w h k.1)
  where
    by : (t : Bool) → is_high z g ≡ t → AreRowsUpTo2To122For (shown_with n (low_bound z f) (highs z rows)) (shadows_with (low_bound z f) (highs z rows))
        → AreRowsUpTo2To122For (shown_with n (low_bound z f) (cond t (high_bound z g ∷ highs z rows) (highs z rows))) (shadows_with (low_bound z f) (cond t (high_bound z g ∷ highs z rows) (highs z rows)))
    by true e rest =
        let m = shown-moderate z f g n (record { factor = p; number = q; product = l; rows = (w, (k.0, tt)); moduli = tt }) (low-size (coef z f) h) e in
        record { up_to_2_to_122 = (inr m, rest.up_to_2_to_122); each = (one-for z f g n m, rest.each) }
    by false e rest = rest

-- those of all lower rows
rows-for : (z p q : ℕ) (all rs : List Row) (ns : List ℕ) → p * q ≤ 2 ^ 120 → AreRowsWithin p q rs → AreRowsWithin p q all → length ns ≡ length rs → AreRowsUpTo2To122For (shown_rows z all rs ns) (shadows (lows z rs) (highs z all))
rows-for z p q all [] ns l w k e = none-for
rows-for z p q all (r ∷ rs) [] l w k e = absurd (omega (arith, e))
rows-for z p q all (Eq f ∷ rs) (n ∷ ns) l w k e = rows-for z p q all rs ns l w.1 k (omega (arith, e))
rows-for z p q all (Div m f ∷ rs) (n ∷ ns) l w k e = rows-for z p q all rs ns l w.1 k (omega (arith, e))
rows-for z p q all (Ge f ∷ rs) (n ∷ ns) l w k e = by (is_low z f) refl (rows-for z p q all rs ns l w.1 k (omega (arith, e)))
  where
    by : (t : Bool) → is_low z f ≡ t → AreRowsUpTo2To122For (shown_rows z all rs ns) (shadows (lows z rs) (highs z all))
        → AreRowsUpTo2To122For (cond t (shown_with (pos n) (low_bound z f) (highs z all)) [] ++ shown_rows z all rs ns) (shadows (cond t (low_bound z f ∷ lows z rs) (lows z rs)) (highs z all))
    by true h rest = append-for (shown_with (pos n) (low_bound z f) (highs z all)) (shadows_with (low_bound z f) (highs z all)) (shown_rows z all rs ns) (shadows (lows z rs) (highs z all)) (with-for z p q f (pos n) all l w.0 h k) rest
    by false h rest = rest

all-for : (z : ℕ) (rows : List Row) (ns : List ℕ) → AreWithin2To120 rows [] → length ns ≡ length rows → AreRowsUpTo2To122For (shown_rows z rows rows ns) (shadows (lows z rows) (highs z rows))
all-for z rows ns m e = rows-for z m.factor m.number rows rows ns m.product m.rows m.rows e

pub shown-stand : (n z : ℕ) (rows made more : List Row) (ns : List ℕ) → AreWithin2To120 rows [] → length ns ≡ length rows → made ≡ rows_without z rows → more ≡ made ++ shown_rows z rows rows ns → StandFor n more (left_by (choice.Shadow z) rows)
shown-stand n z rows made more ns m e f g =
    rw (g, f) (stand-for n (rows_without z rows ++ shown_rows z rows rows ns) (rows_without z rows ++ shadows (lows z rows) (highs z rows)) (both-for (rows_without z rows) (rows_without z rows) (shown_rows z rows rows ns) (shadows (lows z rows) (highs z rows)) (self-for (rows_without z rows)) (all-for z rows ns m e).each))

pub shown-calm : (z : ℕ) (rows made more : List Row) (ns : List ℕ) → AreWithin2To120 rows [] → length ns ≡ length rows → AreRowsUpTo2To122 made → more ≡ made ++ shown_rows z rows rows ns → AreRowsUpTo2To122 more
shown-calm z rows made more ns m e h g = rw g (calm-append made (shown_rows z rows rows ns) h (all-for z rows ns m e).up_to_2_to_122)
