-- The rows that bound a column from one side, one row further.
use Rattle.std.proofs.Common.{◌≡◌, ℕ, ◌+◌, ◌<◌, ◌≤◌, ℤ, pos, neg_ℤ, ◌≤ℤ◌, List, [], ◌∷◌, drop, length, get_or, Bool, true, false, cond, not, ◌&&◌, ◌||◌, ◌<ℤ◌, to_z, of_z, Some, arith, refl, ap, sym, ◌∙◌}
use Rattle.std.specs.Int.{int_max, w128}
use Rattle.std.proofs.lemmas.List.{at_drop_all}
use Rattle.std.specs.Int.Signed.{lt_z}
use Rattle.std.proofs.lemmas.Int.{ints, clamps}
use Rattle.ac_forms.specs.Affine.{Affine, coef}
use Rattle.ac_forms.specs.Fits.{Fits, fits}
use Rattle.ac_forms.specs.declared.row.Row.{Row}
use Rattle.ac_forms.specs.declared.row.Row.TheVariants.{Eq, Div, Ge}
use Rattle.ac_omega_steps.specs.declared.column.Bound.{Bound}
use Rattle.ac_omega_steps.specs.Bounds.{is_low, is_high, low_bound, high_bound, lows, highs, is_none, is_one_sided}
use Rattle.ac_omega_steps.specs.Choices.{is_lower_row}
use Rattle.ac_omega_steps.specs.ChoiceFits.{sizes_fit}
use Rattle.ac_omega_steps.proofs.Fitting.{fits_true, fits_false}
use Rattle.ac_base.proofs.Truths.{and-true}
use Rattle.ac_base.proofs.Bits.{again_128}
use Rattle.ac_omega.proofs.Moduli.{drop-at}
use Rattle.ac_omega_certify.specs.Alternatives.{greatest_size}

pub upper_is : (z : ℕ) (f : Affine) → is_none (highs z (Ge f ∷ [])) ≡ not (is_high z f)
upper_is z f = elim (is_high z f) as (λ t. is_none (cond t (high_bound z f ∷ []) []) ≡ not t) [ true ↦ refl | false ↦ refl ]

pub lows-cons : (z : ℕ) (r : Row) (rs : List Row) → is_none (lows z (r ∷ rs)) ≡ (not (is_lower_row z (Some r)) && is_none (lows z rs))
lows-cons z (Eq f) rs = refl
lows-cons z (Div m f) rs = refl
lows-cons z (Ge f) rs = elim (is_low z f) as (λ t. is_none (cond t (low_bound z f ∷ lows z rs) (lows z rs)) ≡ (not t && is_none (lows z rs))) [ true ↦ refl | false ↦ refl ]

pub highs-cons : (z : ℕ) (r : Row) (rs : List Row) → is_none (highs z (r ∷ rs)) ≡ (is_none (highs z (r ∷ [])) && is_none (highs z rs))
highs-cons z (Eq f) rs = refl
highs-cons z (Div m f) rs = refl
highs-cons z (Ge f) rs =
    elim (is_high z f) as (λ t. is_none (cond t (high_bound z f ∷ highs z rs) (highs z rs)) ≡ (is_none (cond t (high_bound z f ∷ []) []) && is_none (highs z rs))) [ true ↦ refl | false ↦ refl ]

pub ruleset side_steps = (lows-cons, highs-cons)

pub ruleset size_steps = (fits_true, fits_false)

pub ruleset last_steps = (fits_true, fits_false)

and-one : (a b : Bool) → (a && b) ≡ ((a && true) && b)
and-one true b = refl
and-one false b = refl

sizes-cons : (z : ℕ) (r : Row) (rs : List Row) → sizes_fit (highs z (r ∷ rs)) ≡ (sizes_fit (highs z (r ∷ [])) && sizes_fit (highs z rs))
sizes-cons z (Eq f) rs = refl
sizes-cons z (Div m f) rs = refl
sizes-cons z (Ge f) rs =
    elim (is_high z f) as (λ t. sizes_fit (cond t (high_bound z f ∷ highs z rs) (highs z rs)) ≡ (sizes_fit (cond t (high_bound z f ∷ []) []) && sizes_fit (highs z rs))) [
      | true ↦ and-one (fits (neg_ℤ (coef z f))) (sizes_fit (highs z rs))
      | false ↦ refl
    ]

pub greatest-positive : (bs : List Bound) → pos 0 ≤ℤ greatest_size bs
greatest-positive [] = omega (arith, ints)
greatest-positive (b ∷ bs) = omega (arith, ints, clamps, greatest-positive bs)

max-zero : (m : ℤ) → pos 0 ≤ℤ m → m ≡ int_max (pos 0) m
max-zero m h = omega (arith, ints, clamps)

max-three : (a b c : ℤ) → int_max a (int_max b c) ≡ int_max (int_max a b) c
max-three a b c = omega (arith, ints, clamps)

max-first : (a m : ℤ) → pos 0 ≤ℤ m → int_max a m ≡ int_max (int_max a (pos 0)) m
max-first a m h = omega (arith, ints, clamps)

greatest-cons : (z : ℕ) (r : Row) (rs : List Row) → greatest_size (highs z (r ∷ rs)) ≡ int_max (greatest_size (highs z (r ∷ []))) (greatest_size (highs z rs))
greatest-cons z (Eq f) rs = max-zero _ (greatest-positive (highs z rs))
greatest-cons z (Div m f) rs = max-zero _ (greatest-positive (highs z rs))
greatest-cons z (Ge f) rs =
    elim (is_high z f) as (λ t. greatest_size (cond t (high_bound z f ∷ highs z rs) (highs z rs)) ≡ int_max (greatest_size (cond t (high_bound z f ∷ []) [])) (greatest_size (highs z rs))) [
      | true ↦ max-first (neg_ℤ (coef z f)) _ (greatest-positive (highs z rs))
      | false ↦ max-zero _ (greatest-positive (highs z rs))
    ]

-- the greatest size so far, and those of the rows that are left
pub record GreatestSoFar (z : ℕ) (m : ℤ) (rows left : List Row) : Type 0 where
  pub value : greatest_size (highs z rows) ≡ int_max m (greatest_size (highs z left))
  pub fits_so_far : sizes_fit (highs z rows) ≡ sizes_fit (highs z left)
  pub positive : pos 0 ≤ℤ m

pub greatest-start : (z : ℕ) (rows : List Row) → GreatestSoFar z (pos 0) rows rows
greatest-start z rows = record { value = max-zero _ (greatest-positive (highs z rows)); fits_so_far = refl; positive = omega (arith, ints) }

pub greatest-more : (z i : ℕ) (rows : List Row) (r : Row) (m size next : ℤ) → GreatestSoFar z m rows (drop i rows) → i < length rows → r ≡ get_or rows i r
    → sizes_fit (highs z (r ∷ [])) ≡ true → size ≡ greatest_size (highs z (r ∷ [])) → Fits size → Fits next → next ≡ int_max m (to_z w128 (of_z w128 size))
    → GreatestSoFar z (to_z w128 (of_z w128 next)) rows (drop (i + 1) rows)
greatest-more z i rows r m size next held h e fit is f g n =
    let d = drop-at rows i r h e in
    let is_next : next ≡ int_max m size = n ∙ ap (int_max m) (again_128 size f) in
    let at_value = rw (d, greatest-cons z r (drop (i + 1) rows), ← is) at held.value in
    let at_fits = rw (d, sizes-cons z r (drop (i + 1) rows), fit) at held.fits_so_far in
    rw (again_128 next g) record {
      value = at_value ∙ max-three m size _ ∙ ap (λ x. int_max x (greatest_size (highs z (drop (i + 1) rows)))) (sym is_next);
      fits_so_far = at_fits;
      positive = above m size next held.positive is_next;
    }
  where
    above : (m size next : ℤ) → pos 0 ≤ℤ m → next ≡ int_max m size → pos 0 ≤ℤ next
    above m size next h e = omega (arith, ints, clamps)

pub greatest-stop : (z i : ℕ) (rows : List Row) (r : Row) (m : ℤ) → GreatestSoFar z m rows (drop i rows) → i < length rows → r ≡ get_or rows i r → ¬ (sizes_fit (highs z (r ∷ [])) ≡ true) → ¬ (sizes_fit (highs z rows) ≡ true)
greatest-stop z i rows r m held h e n all =
    n ((and-true (sizes_fit (highs z (r ∷ []))) (sizes_fit (highs z (drop (i + 1) rows))) (rw (drop-at rows i r h e, sizes-cons z r (drop (i + 1) rows)) at (sym held.fits_so_far ∙ all))).0)

pub greatest-end : (z i : ℕ) (rows : List Row) (m : ℤ) → GreatestSoFar z m rows (drop i rows) → length rows ≤ i → (sizes_fit (highs z rows) ≡ true) × (m ≡ greatest_size (highs z rows))
greatest-end z i rows m held h =
    (held.fits_so_far ∙ at_drop_all (λ x. sizes_fit (highs z x)) rows i h, sym (held.value ∙ at_drop_all (λ x. int_max m (greatest_size (highs z x))) rows i h ∙ least_max m held.positive))
  where
    least_max : (m : ℤ) → pos 0 ≤ℤ m → int_max m (pos 0) ≡ m
    least_max m h = omega (arith, ints, clamps)

-- a column that is bounded from above has an upper row of size 1 or more
upper-size : (z : ℕ) (rows : List Row) → is_none (highs z rows) ≡ false → pos 1 ≤ℤ greatest_size (highs z rows)
upper-size z [] h = absurd cc
upper-size z (Eq f ∷ rs) h = upper-size z rs h
upper-size z (Div m f ∷ rs) h = upper-size z rs h
upper-size z (Ge f ∷ rs) h = by z f rs (is_high z f) refl (upper-size z rs) h
  where
    by : (z : ℕ) (f : Affine) (rs : List Row) (t : Bool) → is_high z f ≡ t → (is_none (highs z rs) ≡ false → pos 1 ≤ℤ greatest_size (highs z rs))
        → is_none (cond t (high_bound z f ∷ highs z rs) (highs z rs)) ≡ false → pos 1 ≤ℤ greatest_size (cond t (high_bound z f ∷ highs z rs) (highs z rs))
    by z f rs true e rest h = first (coef z f) (greatest_size (highs z rs)) e
      where
        first : (c m : ℤ) → lt_z c (pos 0) ≡ true → pos 1 ≤ℤ int_max (neg_ℤ c) m
        first c m e = let k = below c e in omega (arith, ints, clamps)
          where
            below : (c : ℤ) → lt_z c (pos 0) ≡ true → c <ℤ pos 0
            below c e = grind (arith, ints, e)
    by z f rs false e rest h = rest h

or-false : (a b : Bool) → (a || b) ≡ false → b ≡ false
or-false true b e = absurd cc
or-false false b e = e

pub greatest-one : (z : ℕ) (rows : List Row) → is_one_sided z rows ≡ false → pos 1 ≤ℤ greatest_size (highs z rows)
greatest-one z rows h = upper-size z rows (or-false (is_none (lows z rows)) (is_none (highs z rows)) h)
