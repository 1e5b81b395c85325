-- Normal forms of rows of differences: they are such rows, and are made in `i128`.
use Rattle.std.proofs.Common.{◌≡◌, inl, inr, ℕ, zero, suc, ◌<◌, ◌≤◌, ◌^◌, cond, Bool, true, false, ◌&&◌, int_eq, ℤ, pos, negsuc, ◌*ℤ◌, List, [], ◌∷◌, ◌++◌, map, get_or, arith, refl}
use Rattle.std.specs.Prelude.{unsigned_abs}
use Rattle.std.specs.Int.{w128, int_div_euclid, int_rem_euclid}
use Rattle.std.specs.List.{dedup, dedup_from}
use Rattle.std.specs.Ordering.{is_gt}
use Rattle.std.proofs.lemmas.Int.{ints, fits_signed_from_abs}
use Rattle.ac_base.specs.Dot.{residues}
use Rattle.ac_base.specs.Gcd.{gcd_all, content}
use Rattle.ac_base.specs.Multiple.{divides}
use Rattle.ac_forms.specs.Affine.{Affine}
use Rattle.ac_forms.specs.Fits.{fits, all_fit}
use Rattle.ac_forms.specs.NormalForm.{absurd_rows, left_onto, left_rows, has_absurd, insert_row, in_order, alike, has_clash, normal_form}
use Rattle.ac_forms.specs.NormalRows.{divided, reduced, modular_content, leads_negative, absolutes, sign_numbers, eq_numbers, normal_row}
use Rattle.ac_forms.specs.FormOrder.{row_cmp}
use Rattle.ac_forms.specs.RangeTests.{normal_fits, rows_fit}
use Rattle.ac_forms.specs.declared.row.Row.{Row}
use Rattle.ac_forms.specs.declared.row.Row.TheVariants.{Eq, Div, Ge}
use Rattle.ac_forms.specs.declared.normal.NormalRow.{NormalRow}
use Rattle.ac_forms.specs.declared.normal.NormalRow.TheVariants.{Kept, Dropped, Absurd}
use Rattle.ac_forms.proofs.Sizes.{common_small}
use Rattle.ac_omega_steps.proofs.Fitting.{fits_true}
use Rattle.ac_omega.proofs.DifferenceForms.{IsUnit, no-difference}
use Rattle.ac_omega.proofs.DifferenceRows.{IsOver, IsRow, IsRaw, IsLeft, IsBit, Each, AreUnits, all-bit, cond-left, left-ge, left-eq, form-units, over-divided}

common-one : (cs : List ℤ) → gcd_all 1 cs ≡ 1
common-one cs = let s = common_small (pos 1) cs (omega (arith, ints)) in omega (arith, s)

left-div : (vars : List ℕ) (b : ℕ) (f : Affine) → IsLeft vars b (normal_row (Div (pos 1) f))
left-div vars b f =
    let q = divided (pos (modular_content (pos 1) f)) (reduced (pos 1) f) in
    at (modular_content (pos 1) f) q (common-one (residues (pos 1) f.coefs))
  where
    at : (g : ℕ) (q : Affine) → g ≡ 1 → IsLeft vars b (cond (divides g (int_rem_euclid f.konst (pos 1))) (cond (int_eq (int_div_euclid (pos 1) (pos g)) (pos 1)) Dropped (Kept (Div (int_div_euclid (pos 1) (pos g)) q))) Absurd)
    at g q e = rw e (cond-left vars b (divides 1 (int_rem_euclid f.konst (pos 1))) Dropped Absurd tt tt)

pub left-row : (vars : List ℕ) (b : ℕ) (x : Row) → IsRaw vars b x → IsLeft vars b (normal_row x)
left-row vars b (Eq f) h = left-eq vars b f h (all-bit 0 f.coefs (inl refl) (form-units vars b f h))
left-row vars b (Div m f) h = rw h (left-div vars b f)
left-row vars b (Ge f) h = left-ge vars b f h (all-bit 0 f.coefs (inl refl) (form-units vars b f h))

-- lists of rows
onto-each : (vars : List ℕ) (b : ℕ) (l : NormalRow) (rs : List Row) → IsLeft vars b l → Each (IsRow vars b) rs → Each (IsRow vars b) (left_onto l rs)
onto-each vars b (Kept r) rs h g = (h, g)
onto-each vars b Dropped rs h g = g
onto-each vars b Absurd rs h g = g

pub each-left : (vars : List ℕ) (b : ℕ) (xs : List Row) → Each (IsRaw vars b) xs → Each (IsRow vars b) (left_rows xs)
each-left vars b [] h = tt
each-left vars b (x ∷ xs) h = onto-each vars b (normal_row x) (left_rows xs) (left-row vars b x h.0) (each-left vars b xs h.1)

each-insert : (P : Row → Type 0) (r : Row) (rs : List Row) → P r → Each P rs → Each P (insert_row r rs)
each-insert P r [] h g = (h, tt)
each-insert P r (s ∷ ss) h g = by (is_gt (row_cmp r s)) (each-insert P r ss h g.1)
  where
    by : (t : Bool) → Each P (insert_row r ss) → Each P (cond t (s ∷ insert_row r ss) (r ∷ s ∷ ss))
    by true i = (g.0, i)
    by false i = (h, g)

pub each-in_order : (P : Row → Type 0) (rs : List Row) → Each P rs → Each P (in_order rs)
each-in_order P [] h = tt
each-in_order P (r ∷ rs) h = each-insert P r (in_order rs) h.0 (each-in_order P rs h.1)

pub each-dedup_from : (P : Row → Type 0) (k : Row) (rs : List Row) → P k → Each P rs → Each P (dedup_from alike k rs)
each-dedup_from P k [] h g = (h, tt)
each-dedup_from P k (x ∷ xs) h g = by (alike x k) (each-dedup_from P k xs h g.1) (each-dedup_from P x xs g.0 g.1)
  where
    by : (t : Bool) → Each P (dedup_from alike k xs) → Each P (dedup_from alike x xs) → Each P (cond t (dedup_from alike k xs) (k ∷ dedup_from alike x xs))
    by true m n = m
    by false m n = (h, n)

each-dedup : (P : Row → Type 0) (rs : List Row) → Each P rs → Each P (dedup alike rs)
each-dedup P [] h = tt
each-dedup P (r ∷ rs) h = each-dedup_from P r rs h.0 h.1

pub nothing-at : (j : ℕ) → get_or [] j (pos 0) ≡ pos 0
nothing-at zero = refl
nothing-at (suc j) = refl

absurd-each : (vars : List ℕ) (b : ℕ) → 1 ≤ b → Each (IsRow vars b) absurd_rows
absurd-each vars b l = (
  (
    record {
      difference = no-difference (λ z. get_or [] z (pos 0)) (λ j. nothing-at j);
      within = λ j a. nothing-at j;
      small = l;
    },
    refl,
  ),
  tt,
)

pub normal-each : (vars : List ℕ) (b : ℕ) (xs : List Row) → 1 ≤ b → Each (IsRaw vars b) xs → Each (IsRow vars b) (normal_form xs)
normal-each vars b xs l h = by (has_absurd xs) (has_clash (in_order (left_rows xs)))
  where
    by : (t u : Bool) → Each (IsRow vars b) (cond t absurd_rows (cond u absurd_rows (dedup alike (in_order (left_rows xs)))))
    by true u = absurd-each vars b l
    by false true = absurd-each vars b l
    by false false = each-dedup (IsRow vars b) (in_order (left_rows xs)) (each-in_order (IsRow vars b) (left_rows xs) (each-left vars b xs h))

-- numbers of `i128`
pub fits-within : (z : ℤ) (b : ℕ) → unsigned_abs z ≤ b → b < 2 ^ 127 → fits z ≡ true
fits-within z b h l = fits_true z (fits_signed_from_abs w128 z (omega arith))

pub unit-fits : (c : ℤ) → IsUnit c → (fits (pos (unsigned_abs c)) ≡ true) × (fits (negsuc 0 *ℤ c) ≡ true)
unit-fits c (inl e) = rw e (refl, refl)
unit-fits c (inr (inl e)) = rw e (refl, refl)
unit-fits c (inr (inr e)) = rw e (refl, refl)

absolutes-fit : (cs : List ℤ) → AreUnits cs → all_fit (absolutes cs) ≡ true
absolutes-fit [] u = refl
absolutes-fit (c ∷ cs) u = rw ((unit-fits c u.0).0) (absolutes-fit cs u.1)

turned-fit : (cs : List ℤ) (k : ℤ) → AreUnits cs → fits k ≡ true → all_fit (map (λ c. negsuc 0 *ℤ c) cs ++ k ∷ []) ≡ true
turned-fit [] k u f = rw f refl
turned-fit (c ∷ cs) k u f = rw ((unit-fits c u.0).1) (turned-fit cs k u.1 f)

abs-turned : (c : ℤ) → unsigned_abs (negsuc 0 *ℤ c) ≡ unsigned_abs c
abs-turned c = omega (arith, ints)

cond-fit : (t : Bool) (xs ys : List ℤ) → all_fit xs ≡ true → all_fit ys ≡ true → all_fit (cond t xs ys) ≡ true
cond-fit true xs ys h g = h
cond-fit false xs ys h g = g

signs-fit : (vars : List ℕ) (b : ℕ) (f : Affine) → b < 2 ^ 127 → IsOver vars b f → all_fit (sign_numbers f) ≡ true
signs-fit vars b f l h =
    let k = fits-within (negsuc 0 *ℤ f.konst) b (rw (abs-turned f.konst) h.small) l in
    cond-fit (leads_negative f.coefs) _ [] (turned-fit f.coefs (negsuc 0 *ℤ f.konst) (form-units vars b f h) k) refl

eq-fit : (vars : List ℕ) (b : ℕ) (f : Affine) → b < 2 ^ 127 → IsOver vars b f → IsBit (content f.coefs) → all_fit (eq_numbers f) ≡ true
eq-fit vars b f l h (inl e) = rw e refl
eq-fit vars b f l h (inr e) = rw e (cond-fit (divides 1 f.konst) _ [] (signs-fit vars b (divided (pos 1) f) l (over-divided vars b f h).0) refl)

pub both-true : (a b : Bool) → a ≡ true → b ≡ true → (a && b) ≡ true
both-true true true e f = refl
both-true true false e f = f
both-true false b e f = e

pub row-fits : (vars : List ℕ) (b : ℕ) (r : Row) → b < 2 ^ 127 → IsRaw vars b r → normal_fits r ≡ true
row-fits vars b (Eq f) l h =
    let u = form-units vars b f h in
    both-true (all_fit (absolutes f.coefs)) (all_fit (eq_numbers f)) (absolutes-fit f.coefs u) (eq-fit vars b f l h (all-bit 0 f.coefs (inl refl) u))
row-fits vars b (Div m f) l h = refl
row-fits vars b (Ge f) l h = absolutes-fit f.coefs (form-units vars b f h)

pub rows-fit : (vars : List ℕ) (b : ℕ) (rs : List Row) → b < 2 ^ 127 → Each (IsRaw vars b) rs → rows_fit rs ≡ true
rows-fit vars b [] l h = refl
rows-fit vars b (r ∷ rs) l h = both-true (normal_fits r) (rows_fit rs) (row-fits vars b r l h.0) (rows-fit vars b rs l h.1)
