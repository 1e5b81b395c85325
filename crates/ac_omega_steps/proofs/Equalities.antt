-- An equality that replaces its column in the other rows: a point of what is left goes back, and each point goes on.
use Rattle.std.proofs.Common.{◌≡◌, ◌↔◌, ℕ, zero, suc, ◌<◌, ℤ, pos, negsuc, ◌+ℤ◌, ◌*ℤ◌, neg_ℤ, int_div, int_rem, true, false, not, List, [], ◌∷◌, map, length, set, slice_get, Option, Some, None, unsigned_abs, arith, refl, ap, ◌∙◌}
use Rattle.std.specs.Int.{◌∣◌}
use Rattle.std.specs.Int.Signed.{lt_z}
use Rattle.std.specs.Ordering.{int_eq}
use Rattle.std.proofs.lemmas.Int.{ints, unsigned_abs-mul, quot-rem}
use Rattle.std.proofs.lemmas.Nat.Gcd.{mod-eq-zero_of_dvd}
use Rattle.std.proofs.Math.Nat.{dvd_of_mul-dvd-mul_left, mul-dvd-mul_left}
use Rattle.ac_base.proofs.Multiples.{multiple_from}
use Rattle.ac_base.proofs.Products.{mul-le-mul_ℤ, le_of_mul-le_ℤ, mul-neg_ℤ, neg-mul_ℤ, mul_comm_ℤ}
use Rattle.ac_base.proofs.Residues.{zero_factor}
use Rattle.ac_forms.specs.Affine.{Affine, coef, value_at}
use Rattle.ac_forms.specs.Rows.{form_of, Holds, Meets}
use Rattle.ac_forms.specs.declared.row.Row.{Row}
use Rattle.ac_forms.specs.declared.row.Row.TheVariants.{Eq, Div, Ge}
use Rattle.ac_forms.proofs.Values.{value_at-combined}
use Rattle.ac_omega_steps.specs.Bounds.{without}
use Rattle.ac_forms.specs.RowColumns.{has_column}
use Rattle.ac_omega_steps.specs.Choices.{size_of, against, replaced, replaced_row, others, by_equality, is_equality_of, solved}
use Rattle.ac_omega_steps.proofs.Keeping.{row-holds}
use Rattle.ac_omega_steps.proofs.OneColumn.{AreFree, value-split, value-rest, value-free, meets-free, meets-both, meets-first, meets-second, meets-others, others-meet, free-append, coef-without, coef-combined}

not_below_zero : (n : ℕ) → lt_z (pos n) (pos 0) ≡ false
not_below_zero n = grind (arith, ints)

-- c times the number against it
against-times : (c x : ℤ) → c *ℤ against c x ≡ neg_ℤ (size_of c *ℤ x)
against-times (pos n) x = rw (not_below_zero n, mul-neg_ℤ) refl
against-times (negsuc n) x = let e = neg-mul_ℤ (pos (suc n)) x in omega (arith, ints, e)

size-against : (c x : ℤ) → size_of c *ℤ against c x ≡ neg_ℤ (c *ℤ x)
size-against (pos n) x = rw (not_below_zero n, mul-neg_ℤ) refl
size-against (negsuc n) x = let e = neg-mul_ℤ (pos (suc n)) x in omega (arith, ints, e)

cancels : (c x : ℤ) → size_of c *ℤ x +ℤ against c x *ℤ c ≡ pos 0
cancels c x = let e = against-times c x in omega (arith, ints, e)

times-zero : (x : ℤ) → x *ℤ pos 0 ≡ pos 0
times-zero x = omega (arith, ints)

size-positive : (z : ℕ) (g : Affine) → has_column z (Eq g) ≡ true → 0 < unsigned_abs (coef z g)
size-positive z g e = at (coef z g) e
  where
    at : (c : ℤ) → not (int_eq c (pos 0)) ≡ true → 0 < unsigned_abs c
    at (pos zero) e = absurd cc
    at (pos (suc n)) e = omega arith
    at (negsuc n) e = omega arith

replaced-value : (z : ℕ) (g f : Affine) (p : List ℤ) → value_at g p ≡ pos 0 → value_at (replaced z g f) p ≡ size_of (coef z g) *ℤ value_at f p
replaced-value z g f p e =
    let v = value_at-combined (size_of (coef z g)) f (against (coef z g) (coef z f)) g p in
    let t = times-zero (against (coef z g) (coef z f)) in
    v ∙ rw (e, t) (omega (arith, ints))

-- where the equality holds, a row and what is made of it hold together
replaced-holds : (z : ℕ) (g : Affine) (r : Row) (p : List ℤ) → 0 < unsigned_abs (coef z g) → value_at g p ≡ pos 0 → Holds r p ↔ Holds (replaced_row z g r) p
replaced-holds z g (Ge f) p l e =
    rw (replaced-value z g f p e) (
      (λ h. omega (arith, ints, mul-le-mul_ℤ (unsigned_abs (coef z g)) (pos 0) (value_at f p) h)),
      (λ h. le_of_mul-le_ℤ (unsigned_abs (coef z g)) (pos 0) (value_at f p) l (omega (arith, ints))),
    )
replaced-holds z g (Eq f) p l e =
    rw (replaced-value z g f p e) ((λ h. rw h (times-zero (size_of (coef z g)))), (λ h. zero_factor (unsigned_abs (coef z g)) (value_at f p) l h))
replaced-holds z g (Div m f) p l e =
    rw (replaced-value z g f p e, unsigned_abs-mul (size_of (coef z g)) m, unsigned_abs-mul (size_of (coef z g)) (value_at f p)) (
      (λ h. mul-dvd-mul_left (unsigned_abs m) (unsigned_abs (coef z g)) h),
      (λ h. dvd_of_mul-dvd-mul_left (unsigned_abs m) l h),
    )

replaced-meet : (z : ℕ) (g : Affine) (rows : List Row) (p : List ℤ) → 0 < unsigned_abs (coef z g) → value_at g p ≡ pos 0 → Meets rows p ↔ Meets (map (replaced_row z g) rows) p
replaced-meet z g [] p l e = ((λ h. h), (λ h. h))
replaced-meet z g (r ∷ rows) p l e =
    let a = replaced-holds z g r p l e in
    let b = replaced-meet z g rows p l e in
    ((λ h. (a.0 h.0, b.0 h.1)), (λ h. (a.1 h.0, b.1 h.1)))

-- the column is gone
replaced-free : (z : ℕ) (g f : Affine) → coef z (replaced z g f) ≡ pos 0
replaced-free z g f = coef-combined z (size_of (coef z g)) f (against (coef z g) (coef z f)) g ∙ cancels (coef z g) (coef z f)

row-free : (z : ℕ) (g : Affine) (r : Row) → coef z (form_of (replaced_row z g r)) ≡ pos 0
row-free z g (Ge f) = replaced-free z g f
row-free z g (Eq f) = replaced-free z g f
row-free z g (Div m f) = replaced-free z g f

all-free : (z : ℕ) (g : Affine) (rows : List Row) → AreFree z (map (replaced_row z g) rows)
all-free z g [] = tt
all-free z g (r ∷ rows) = (row-free z g r, all-free z g rows)

pub equality-free : (z i : ℕ) (o : Option Row) (rows : List Row) → is_equality_of z o ≡ true → AreFree z (by_equality z i o rows)
equality-free z i None rows e = absurd cc
equality-free z i (Some (Ge f)) rows e = absurd cc
equality-free z i (Some (Div m f)) rows e = absurd cc
equality-free z i (Some (Eq g)) rows e = free-append z (map (replaced_row z g) (others i rows)) (Div (size_of (coef z g)) (without z g) ∷ []) (all-free z g (others i rows)) (coef-without z g, tt)

size-neg : (a : ℤ) → unsigned_abs (neg_ℤ a) ≡ unsigned_abs a
size-neg (pos zero) = refl
size-neg (pos (suc n)) = refl
size-neg (negsuc n) = refl

-- a quotient without remainder
exact-rest : (a c : ℤ) → unsigned_abs c ∣ unsigned_abs a → int_rem a c ≡ pos 0
exact-rest (pos a) c d = ap pos (mod-eq-zero_of_dvd (unsigned_abs c) d)
exact-rest (negsuc a) c d = ap (λ n. neg_ℤ (pos n)) (mod-eq-zero_of_dvd (unsigned_abs c) d)

exact-quotient : (a c : ℤ) → unsigned_abs c ∣ unsigned_abs a → c *ℤ int_div a c ≡ a
exact-quotient a c d = let e = exact-rest a c d in mul_comm_ℤ c (int_div a c) ∙ omega (arith, ints, quot-rem a c, e)

-- the equality holds where the column is solved for
solved-zero : (z : ℕ) (g : Affine) (q : List ℤ) → z < length q → Holds (Div (size_of (coef z g)) (without z g)) q
    → value_at g (set q z (int_div (neg_ℤ (value_at (without z g) q)) (coef z g))) ≡ pos 0
solved-zero z g q l d =
    let r = value_at (without z g) q in
    let e = value-split g q z (int_div (neg_ℤ r) (coef z g)) l in
    let o = exact-quotient (neg_ℤ r) (coef z g) (rw (size-neg r) d) in
    e ∙ rw o (omega (arith, ints))

pub equality-lifts : (z i : ℕ) (o : Option Row) (rows : List Row) (q : List ℤ) → z < length q → slice_get rows i ≡ o → is_equality_of z o ≡ true → Meets (by_equality z i o rows) q → Meets rows (set q z (solved z o q))
equality-lifts z i None rows q l is e h = absurd cc
equality-lifts z i (Some (Ge f)) rows q l is e h = absurd cc
equality-lifts z i (Some (Div m f)) rows q l is e h = absurd cc
equality-lifts z i (Some (Eq g)) rows q l is e h =
    let made = map (replaced_row z g) (others i rows) in
    let d = meets-second made (Div (size_of (coef z g)) (without z g) ∷ []) q h in
    let s = size-positive z g e in
    let v = int_div (neg_ℤ (value_at (without z g) q)) (coef z g) in
    let zero = solved-zero z g q l d.0 in
    let on = (meets-free made q z v l (all-free z g (others i rows))).1 (meets-first made (Div (size_of (coef z g)) (without z g) ∷ []) q h) in
    rw (value-rest g q z l) (others-meet rows i (Eq g) (set q z v) is zero ((replaced-meet z g (others i rows) (set q z v) s zero).1 on))

pub equality-covers : (z i : ℕ) (o : Option Row) (rows : List Row) (p : List ℤ) (v : ℤ) → z < length p → slice_get rows i ≡ o → is_equality_of z o ≡ true → Meets rows (set p z v) → Meets (by_equality z i o rows) (set p z v)
equality-covers z i None rows p v l is e h = absurd cc
equality-covers z i (Some (Ge f)) rows p v l is e h = absurd cc
equality-covers z i (Some (Div m f)) rows p v l is e h = absurd cc
equality-covers z i (Some (Eq g)) rows p v l is e h =
    let zero = row-holds rows i (set p z v) (Eq g) h is in
    let s = size-positive z g e in
    let free = value-free (without z g) p z v l (coef-without z g) in
    let split = value-split g p z v l in
    let turned = size-against (coef z g) v in
    let rest : value_at (without z g) (set p z v) ≡ size_of (coef z g) *ℤ against (coef z g) v = omega (arith, ints, zero, free, split, turned) in
    meets-both (map (replaced_row z g) (others i rows)) (Div (size_of (coef z g)) (without z g) ∷ []) (set p z v)
    ((replaced-meet z g (others i rows) (set p z v) s zero).0 (meets-others rows i (set p z v) h))
    (multiple_from (size_of (coef z g)) (value_at (without z g) (set p z v)) (against (coef z g) v) rest, tt)
