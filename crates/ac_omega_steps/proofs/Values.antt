-- The numbers that bounds of a column allow at a point, row by row.
use Rattle.std.proofs.Common.{◌≡◌, ℕ, zero, suc, ◌+◌, ◌<◌, ◌≤◌, ◌⊎◌, inl, inr, ℤ, pos, negsuc, neg_ℤ, ◌≤ℤ◌, List, [], ◌∷◌, ◌++◌, length, get_or, drop, set, Option, Some, None, Bool, true, false, not, ◌&&◌, cond, refl, sym, ap, ◌∙◌, arith, ◌≢◌, FitsSigned, to_z, of_z}
use Rattle.ac_base.proofs.Bits.{again_128}
use Rattle.std.specs.Int.{w128, IsNonZero, int_div_euclid, int_max, int_min}
use Rattle.std.specs.Int.Signed.{lt_z}
use Rattle.std.specs.Ordering.{int_eq}
use Rattle.std.proofs.lemmas.Int.{ints}
use Rattle.std.proofs.lemmas.List.{drop_all}
use Rattle.ac_forms.specs.Affine.{Affine, coef}
use Rattle.ac_forms.specs.Fits.{fits}
use Rattle.ac_forms.specs.RangeTests.{can_evaluate}
use Rattle.ac_forms.specs.declared.row.Row.{Row}
use Rattle.ac_forms.specs.declared.row.Row.TheVariants.{Eq, Div, Ge}
use Rattle.ac_omega_steps.specs.Bounds.{is_low, is_high, is_none, lows}
use Rattle.ac_forms.specs.RowColumns.{has_column}
use Rattle.ac_omega_steps.specs.Choices.{rest_at, low_values, high_values, greatest, least, between}
use Rattle.ac_omega_steps.specs.ChoiceFits.{low_values_fit, high_values_fit, between_fits}
use Rattle.ac_omega_steps.specs.Extremes.{greater, lesser, greatest_from, least_from}
use Rattle.ac_omega_steps.proofs.Parts.{drop-at}
use Rattle.ac_base.proofs.Truths.{and-true}

-- divisors are positive
pub low_divisor : (z : ℕ) (f : Affine) → is_low z f ≡ true → pos 1 ≤ℤ coef z f
low_divisor z f e = by (coef z f) e
  where
    by : (c : ℤ) → lt_z (pos 0) c ≡ true → pos 1 ≤ℤ c
    by c e = grind (arith, ints, e)

pub high_divisor : (z : ℕ) (f : Affine) → is_high z f ≡ true → pos 1 ≤ℤ neg_ℤ (coef z f)
high_divisor z f e = by (coef z f) e
  where
    by : (c : ℤ) → lt_z c (pos 0) ≡ true → pos 1 ≤ℤ neg_ℤ c
    by c e = grind (arith, ints, e)

pub has_divisor : (z : ℕ) (f : Affine) → has_column z (Eq f) ≡ true → coef z f ≢ pos 0
has_divisor z f e = by (coef z f) e
  where
    by : (c : ℤ) → not (int_eq c (pos 0)) ≡ true → c ≢ pos 0
    by (pos zero) e = absurd cc
    by (pos (suc n)) e = λ h. absurd cc
    by (negsuc n) e = λ h. absurd cc

pub is_divisor : (c : ℤ) → FitsSigned w128 c → c ≢ pos 0 → IsNonZero w128 c
is_divisor c f h = by (of_z w128 c) refl
  where
    by : (n : ℕ) → of_z w128 c ≡ n → IsNonZero w128 c
    by zero e = absurd (h (sym (again_128 c f) ∙ ap (to_z w128) e))
    by (suc n) e = rw e (omega arith)

-- one row in front of others
low-fits : (z : ℕ) (r : Row) (rs : List Row) (p : List ℤ) → low_values_fit z (r ∷ rs) p ≡ (low_values_fit z (r ∷ []) p && low_values_fit z rs p)
low-fits z (Eq f) rs p = refl
low-fits z (Div m f) rs p = refl
low-fits z (Ge f) rs p = by (is_low z f) (can_evaluate f (set p z (pos 0))) (fits (neg_ℤ (int_div_euclid (rest_at z f p) (coef z f)))) (low_values_fit z rs p)
  where
    by : (t a b c : Bool) → cond t (a && (b && c)) c ≡ (cond t (a && (b && true)) true && c)
    by true true true c = refl
    by true true false c = refl
    by true false b c = refl
    by false a b c = refl

low-values : (z : ℕ) (r : Row) (rs : List Row) (p : List ℤ) → low_values z (r ∷ rs) p ≡ low_values z (r ∷ []) p ++ low_values z rs p
low-values z (Eq f) rs p = refl
low-values z (Div m f) rs p = refl
low-values z (Ge f) rs p = by (is_low z f) (neg_ℤ (int_div_euclid (rest_at z f p) (coef z f))) (low_values z rs p)
  where
    by : (t : Bool) (v : ℤ) (vs : List ℤ) → cond t (v ∷ vs) vs ≡ cond t (v ∷ []) [] ++ vs
    by true v vs = refl
    by false v vs = refl

high-fits : (z : ℕ) (r : Row) (rs : List Row) (p : List ℤ) → high_values_fit z (r ∷ rs) p ≡ (high_values_fit z (r ∷ []) p && high_values_fit z rs p)
high-fits z (Eq f) rs p = refl
high-fits z (Div m f) rs p = refl
high-fits z (Ge f) rs p = by (is_high z f) (can_evaluate f (set p z (pos 0))) (fits (neg_ℤ (coef z f))) (high_values_fit z rs p)
  where
    by : (t a b c : Bool) → cond t (a && (b && c)) c ≡ (cond t (a && (b && true)) true && c)
    by true true true c = refl
    by true true false c = refl
    by true false b c = refl
    by false a b c = refl

high-values : (z : ℕ) (r : Row) (rs : List Row) (p : List ℤ) → high_values z (r ∷ rs) p ≡ high_values z (r ∷ []) p ++ high_values z rs p
high-values z (Eq f) rs p = refl
high-values z (Div m f) rs p = refl
high-values z (Ge f) rs p = by (is_high z f) (int_div_euclid (rest_at z f p) (neg_ℤ (coef z f))) (high_values z rs p)
  where
    by : (t : Bool) (v : ℤ) (vs : List ℤ) → cond t (v ∷ vs) vs ≡ cond t (v ∷ []) [] ++ vs
    by true v vs = refl
    by false v vs = refl

greatest-append : (b : Option ℤ) (xs ys : List ℤ) → greatest_from b (xs ++ ys) ≡ greatest_from (greatest_from b xs) ys
greatest-append b [] ys = refl
greatest-append b (x ∷ xs) ys = greatest-append (Some (greater b x)) xs ys

least-append : (b : Option ℤ) (xs ys : List ℤ) → least_from b (xs ++ ys) ≡ least_from (least_from b xs) ys
least-append b [] ys = refl
least-append b (x ∷ xs) ys = least-append (Some (lesser b x)) xs ys

-- before row i: all numbers so far fit, and the best of them
pub record LowsHalfway (z i : ℕ) (rows : List Row) (p : List ℤ) (best : Option ℤ) : Type 0 where
  pub fits : low_values_fit z rows p ≡ low_values_fit z (drop i rows) p
  pub value : greatest_from None (low_values z rows p) ≡ greatest_from best (low_values z (drop i rows) p)

pub record HighsHalfway (z i : ℕ) (rows : List Row) (p : List ℤ) (best : Option ℤ) : Type 0 where
  pub fits : high_values_fit z rows p ≡ high_values_fit z (drop i rows) p
  pub value : least_from None (high_values z rows p) ≡ least_from best (high_values z (drop i rows) p)

pub low_more : (z i : ℕ) (rows : List Row) (p : List ℤ) (best next : Option ℤ) (r : Row) → LowsHalfway z i rows p best → i < length rows → r ≡ get_or rows i r → low_values_fit z (r ∷ []) p ≡ true → next ≡ greatest_from best (low_values z (r ∷ []) p) → LowsHalfway z (i + 1) rows p next
low_more z i rows p best next r h l e t n =
    let d = drop-at rows i r l e in
    record {
      fits = h.fits ∙ ap (λ (x : List Row). low_values_fit z x p) d ∙ low-fits z r (drop (i + 1) rows) p ∙ ap (λ (b : Bool). b && low_values_fit z (drop (i + 1) rows) p) t;
      value = h.value ∙ ap (λ (x : List Row). greatest_from best (low_values z x p)) d ∙ ap (λ (x : List ℤ). greatest_from best x) (low-values z r (drop (i + 1) rows) p) ∙ greatest-append best (low_values z (r ∷ []) p) (low_values z (drop (i + 1) rows) p)
          ∙ ap (λ (x : Option ℤ). greatest_from x (low_values z (drop (i + 1) rows) p)) (sym n);
    }

pub low_wide : (z i : ℕ) (rows : List Row) (p : List ℤ) (best : Option ℤ) (r : Row) → LowsHalfway z i rows p best → i < length rows → r ≡ get_or rows i r → ¬ (low_values_fit z (r ∷ []) p ≡ true) → ¬ (low_values_fit z rows p ≡ true)
low_wide z i rows p best r h l e t all =
    t (and-true (low_values_fit z (r ∷ []) p) _ (sym (h.fits ∙ ap (λ (x : List Row). low_values_fit z x p) (drop-at rows i r l e) ∙ low-fits z r (drop (i + 1) rows) p) ∙ all)).0

pub low_end : (z i : ℕ) (rows : List Row) (p : List ℤ) (best : Option ℤ) → LowsHalfway z i rows p best → length rows ≤ i → (low_values_fit z rows p ≡ true) × (best ≡ greatest_from None (low_values z rows p))
low_end z i rows p best h l =
    let d = drop_all i rows l in
    (h.fits ∙ ap (λ (x : List Row). low_values_fit z x p) d, sym (h.value ∙ ap (λ (x : List Row). greatest_from best (low_values z x p)) d))

pub high_more : (z i : ℕ) (rows : List Row) (p : List ℤ) (best next : Option ℤ) (r : Row) → HighsHalfway z i rows p best → i < length rows → r ≡ get_or rows i r → high_values_fit z (r ∷ []) p ≡ true → next ≡ least_from best (high_values z (r ∷ []) p) → HighsHalfway z (i + 1) rows p next
high_more z i rows p best next r h l e t n =
    let d = drop-at rows i r l e in
    record {
      fits = h.fits ∙ ap (λ (x : List Row). high_values_fit z x p) d ∙ high-fits z r (drop (i + 1) rows) p ∙ ap (λ (b : Bool). b && high_values_fit z (drop (i + 1) rows) p) t;
      value = h.value ∙ ap (λ (x : List Row). least_from best (high_values z x p)) d ∙ ap (λ (x : List ℤ). least_from best x) (high-values z r (drop (i + 1) rows) p) ∙ least-append best (high_values z (r ∷ []) p) (high_values z (drop (i + 1) rows) p)
          ∙ ap (λ (x : Option ℤ). least_from x (high_values z (drop (i + 1) rows) p)) (sym n);
    }

pub high_wide : (z i : ℕ) (rows : List Row) (p : List ℤ) (best : Option ℤ) (r : Row) → HighsHalfway z i rows p best → i < length rows → r ≡ get_or rows i r → ¬ (high_values_fit z (r ∷ []) p ≡ true) → ¬ (high_values_fit z rows p ≡ true)
high_wide z i rows p best r h l e t all =
    t (and-true (high_values_fit z (r ∷ []) p) _ (sym (h.fits ∙ ap (λ (x : List Row). high_values_fit z x p) (drop-at rows i r l e) ∙ high-fits z r (drop (i + 1) rows) p) ∙ all)).0

pub high_end : (z i : ℕ) (rows : List Row) (p : List ℤ) (best : Option ℤ) → HighsHalfway z i rows p best → length rows ≤ i → (high_values_fit z rows p ≡ true) × (best ≡ least_from None (high_values z rows p))
high_end z i rows p best h l =
    let d = drop_all i rows l in
    (h.fits ∙ ap (λ (x : List Row). high_values_fit z x p) d, sym (h.value ∙ ap (λ (x : List Row). least_from best (high_values z x p)) d))

-- the greatest of a list
max-assoc : (a b c : ℤ) → int_max (int_max a b) c ≡ int_max a (int_max b c)
max-assoc a b c = grind (arith, ints)

min-assoc : (a b c : ℤ) → int_min (int_min a b) c ≡ int_min a (int_min b c)
min-assoc a b c = grind (arith, ints)

greatest-max : (a b : ℤ) (vs : List ℤ) → greatest (int_max a b) vs ≡ int_max a (greatest b vs)
greatest-max a b [] = refl
greatest-max a b (v ∷ vs) = max-assoc a b (greatest v vs)

greatest-is : (b : ℤ) (vs : List ℤ) → greatest_from (Some b) vs ≡ Some (greatest b vs)
greatest-is b [] = refl
greatest-is b (v ∷ vs) = greatest-is (int_max b v) vs ∙ ap (λ (x : ℤ). Some x) (greatest-max b v vs)

least-min : (a b : ℤ) (vs : List ℤ) → least (int_min a b) vs ≡ int_min a (least b vs)
least-min a b [] = refl
least-min a b (v ∷ vs) = min-assoc a b (least v vs)

least-is : (b : ℤ) (vs : List ℤ) → least_from (Some b) vs ≡ Some (least b vs)
least-is b [] = refl
least-is b (v ∷ vs) = least-is (int_min b v) vs ∙ ap (λ (x : ℤ). Some x) (least-min b v vs)

-- without lower rows there are no numbers, and nothing is to fit; with one there is one
record NoLows (z : ℕ) (rows : List Row) (p : List ℤ) : Type 0 where
  none : is_none (lows z rows) ≡ true
  numbers : low_values z rows p ≡ []
  fit : low_values_fit z rows p ≡ true

record SomeLow (z : ℕ) (rows : List Row) (p : List ℤ) : Type 0 where
  some : is_none (lows z rows) ≡ false
  first : ℤ
  rest : List ℤ
  numbers : low_values z rows p ≡ first ∷ rest

either-low : (z : ℕ) (rows : List Row) (p : List ℤ) → NoLows z rows p ⊎ SomeLow z rows p
either-low z [] p = inl (record { none = refl; numbers = refl; fit = refl })
either-low z (Eq f ∷ rs) p = elim (either-low z rs p) [
  | inl h ↦ inl (record { none = h.none; numbers = h.numbers; fit = h.fit })
  | inr h ↦ inr (record { some = h.some; first = h.first; rest = h.rest; numbers = h.numbers })
]
either-low z (Div m f ∷ rs) p = elim (either-low z rs p) [
  | inl h ↦ inl (record { none = h.none; numbers = h.numbers; fit = h.fit })
  | inr h ↦ inr (record { some = h.some; first = h.first; rest = h.rest; numbers = h.numbers })
]
either-low z (Ge f ∷ rs) p = by (either-low z rs p) (is_low z f) refl
  where
    by : NoLows z rs p ⊎ SomeLow z rs p → (t : Bool) → is_low z f ≡ t → NoLows z (Ge f ∷ rs) p ⊎ SomeLow z (Ge f ∷ rs) p
    by h true e = inr (record { some = rw e refl; first = neg_ℤ (int_div_euclid (rest_at z f p) (coef z f)); rest = low_values z rs p; numbers = rw e refl })
    by (inl h) false e = inl (record { none = rw e h.none; numbers = rw e h.numbers; fit = rw e h.fit })
    by (inr h) false e = inr (record { some = rw e h.some; first = h.first; rest = h.rest; numbers = rw e h.numbers })

-- the number between the bounds
pub between_low : (z : ℕ) (rows : List Row) (p : List ℤ) (v : ℤ) → low_values_fit z rows p ≡ true → Some v ≡ greatest_from None (low_values z rows p) → (between_fits z rows p ≡ true) × (v ≡ between (low_values z rows p) (high_values z rows p))
between_low z rows p v f e = elim (either-low z rows p) [
  | inl h ↦ absurd (empty (rw h.numbers at e))
  | inr h ↦ (rw h.some f, rw h.numbers (is v h.first h.rest (rw h.numbers at e)))
]
  where
    empty : Some v ≡ None → ⊥
    empty e = cc

    is : (v w : ℤ) (ws : List ℤ) → Some v ≡ greatest_from (Some w) ws → v ≡ greatest w ws
    is v w ws e = let s = e ∙ greatest-is w ws in cc

pub between_wide : (z : ℕ) (rows : List Row) (p : List ℤ) → ¬ (low_values_fit z rows p ≡ true) → ¬ (between_fits z rows p ≡ true)
between_wide z rows p f = elim (either-low z rows p) [
  | inl h ↦ absurd (f h.fit)
  | inr h ↦ rw h.some f
]

-- no number from below
no-lows : (z : ℕ) (rows : List Row) (p : List ℤ) → None ≡ greatest_from None (low_values z rows p) → NoLows z rows p
no-lows z rows p e = elim (either-low z rows p) [
  | inl h ↦ h
  | inr h ↦ absurd (full h.first h.rest (rw h.numbers at e))
]
  where
    full : (w : ℤ) (ws : List ℤ) → None ≡ greatest_from (Some w) ws → ⊥
    full w ws e = let s = e ∙ greatest-is w ws in cc

pub between_high : (z : ℕ) (rows : List Row) (p : List ℤ) (v : ℤ) → None ≡ greatest_from None (low_values z rows p) → high_values_fit z rows p ≡ true → Some v ≡ least_from None (high_values z rows p)
    → (between_fits z rows p ≡ true) × (v ≡ between (low_values z rows p) (high_values z rows p))
between_high z rows p v n f e =
    let h = no-lows z rows p n in
    (rw h.none f, rw h.numbers (is (high_values z rows p) e))
  where
    is : (vs : List ℤ) → Some v ≡ least_from None vs → v ≡ between [] vs
    is [] e = absurd cc
    is (w ∷ ws) e = let s = e ∙ least-is w ws in cc

pub between_none : (z : ℕ) (rows : List Row) (p : List ℤ) → None ≡ greatest_from None (low_values z rows p) → high_values_fit z rows p ≡ true → None ≡ least_from None (high_values z rows p)
    → (between_fits z rows p ≡ true) × (pos 0 ≡ between (low_values z rows p) (high_values z rows p))
between_none z rows p n f e =
    let h = no-lows z rows p n in
    (rw h.none f, rw h.numbers (is (high_values z rows p) e))
  where
    is : (vs : List ℤ) → None ≡ least_from None vs → pos 0 ≡ between [] vs
    is [] e = refl
    is (w ∷ ws) e = let s = e ∙ least-is w ws in absurd cc

pub between_stop : (z : ℕ) (rows : List Row) (p : List ℤ) → None ≡ greatest_from None (low_values z rows p) → ¬ (high_values_fit z rows p ≡ true) → ¬ (between_fits z rows p ≡ true)
between_stop z rows p n f = let h = no-lows z rows p n in rw h.none f
