-- Sums in which columns are added to a form, column by column: they fit in `i128` at other columns too.
use Rattle.std.proofs.Common.{lit<, ◌≡◌, ℕ, zero, suc, ◌+◌, ◌-◌, ◌<◌, ℤ, pos, ◌+ℤ◌, ◌*ℤ◌, List, [], ◌∷◌, ◌++◌, replicate, get_or, refl, sym, ap, ◌∙◌, subst, arith}
use Rattle.std.proofs.lemmas.Int.{ints}
use Rattle.ac_base.specs.Dot.{mix}
use Rattle.ac_forms.specs.Affine.{Affine, coef, combined, column_form, times_numbers, CanAddTimes}
use Rattle.ac_forms.specs.Fits.{Fits, AllFit}

pub Fits_0 : Fits (pos 0)
Fits_0 = record { sfits = lit< tt }

-- the coefficients of column k
abbrev pub unit : ℕ → List ℤ
unit k = replicate k (pos 0) ++ pos 1 ∷ []

pub unit_is : (k : ℕ) → column_form (k + 1) k ≡ record { konst = pos 0; coefs = unit k }
unit_is k = let none : k + 1 - k - 1 ≡ 0 = omega arith in ap (λ n. record { konst = pos 0; coefs = replicate k (pos 0) ++ pos 1 ∷ replicate n (pos 0) }) none

-- what c times column k has in column i
abbrev pub share : ℕ → ℤ → ℕ → ℤ
share zero c zero = c
share zero c (suc i) = pos 0
share (suc k) c zero = pos 0
share (suc k) c (suc i) = share k c i

pub share_here : (k : ℕ) (c : ℤ) → share k c k ≡ c
share_here zero c = refl
share_here (suc k) c = share_here k c

pub share_apart : (k : ℕ) (c : ℤ) (i : ℕ) → (k ≡ i → ⊥) → share k c i ≡ pos 0
share_apart zero c zero h = absurd (h refl)
share_apart zero c (suc i) h = refl
share_apart (suc k) c zero h = refl
share_apart (suc k) c (suc i) h = share_apart k c i (λ e. h (ap suc e))

-- ---- the sum

mix_none : (xs : List ℤ) (c : ℤ) (i : ℕ) → get_or (mix (pos 1) xs c []) i (pos 0) ≡ get_or xs i (pos 0) +ℤ pos 0
mix_none [] c i = omega (arith, ints)
mix_none (x ∷ xs) c zero = omega (arith, ints)
mix_none (x ∷ xs) c (suc i) = mix_none xs c i

mix_unit : (xs : List ℤ) (c : ℤ) (k i : ℕ) → get_or (mix (pos 1) xs c (unit k)) i (pos 0) ≡ get_or xs i (pos 0) +ℤ share k c i
mix_unit [] c zero zero = omega (arith, ints)
mix_unit [] c zero (suc i) = refl
mix_unit [] c (suc k) zero = omega (arith, ints)
mix_unit [] c (suc k) (suc i) = mix_unit [] c k i
mix_unit (x ∷ xs) c zero zero = omega (arith, ints)
mix_unit (x ∷ xs) c zero (suc i) = mix_none xs c i
mix_unit (x ∷ xs) c (suc k) zero = omega (arith, ints)
mix_unit (x ∷ xs) c (suc k) (suc i) = mix_unit xs c k i

abbrev pub plus_column : Affine → ℤ → ℕ → Affine
plus_column f c k = combined (pos 1) f c (column_form (k + 1) k)

pub coef_of_sum : (f : Affine) (c : ℤ) (k i : ℕ) → coef i (plus_column f c k) ≡ coef i f +ℤ share k c i
coef_of_sum f c k i = ap (λ g. coef i (combined (pos 1) f c g)) (unit_is k) ∙ mix_unit f.coefs c k i

pub konst_of_sum : (f : Affine) (c : ℤ) (k : ℕ) → (plus_column f c k).konst ≡ f.konst
konst_of_sum f c k = omega (arith, ints)

-- ---- what has to fit: the coefficients before the column, the new one, and the constant

pub record CanAdd (f : Affine) (c : ℤ) (k : ℕ) : Type 0 where
  pub before : (i : ℕ) → i < k → Fits (coef i f)
  pub coefficient : Fits c
  pub sum : Fits (coef k f +ℤ c)
  pub konst : Fits f.konst

-- the same of a list of coefficients
record Told (xs : List ℤ) (c : ℤ) (k : ℕ) : Type 0 where
  pub before : (i : ℕ) → i < k → Fits (get_or xs i (pos 0))
  pub coefficient : Fits c
  pub sum : Fits (get_or xs k (pos 0) +ℤ c)

once : (c : ℤ) → c *ℤ pos 1 ≡ c
once c = omega (arith, ints)

never : (c : ℤ) → c *ℤ pos 0 ≡ pos 0
never c = omega (arith, ints)

alone : (c : ℤ) → pos 0 +ℤ c ≡ c
alone c = omega (arith, ints)

unchanged : (x c : ℤ) → x +ℤ c *ℤ pos 0 ≡ x
unchanged x c = omega (arith, ints)

onward : (xs : List ℤ) (c : ℤ) (k : ℕ) → AllFit (times_numbers xs c (unit k)) → Told xs c k
onward [] c zero h = let one : Fits c = subst Fits (once c) h.0 in record { before = λ i l. absurd (omega (arith, l)); coefficient = one; sum = subst Fits (sym (alone c)) one }
onward (x ∷ xs) c zero h = record { before = λ i l. absurd (omega (arith, l)); coefficient = subst Fits (once c) h.0; sum = subst (λ z. Fits (x +ℤ z)) (once c) h.1.0 }
onward [] c (suc k) h = let rest = onward [] c k h.1 in record { before = λ i l. Fits_0; coefficient = rest.coefficient; sum = rest.sum }
onward (x ∷ xs) c (suc k) h =
    let rest = onward xs c k h.1.1 in
    record { before = by rest.before (subst Fits (unchanged x c) h.1.0); coefficient = rest.coefficient; sum = rest.sum }
  where
    by : ((i : ℕ) → i < k → Fits (get_or xs i (pos 0))) → Fits x → (i : ℕ) → i < suc k → Fits (get_or (x ∷ xs) i (pos 0))
    by g f zero l = f
    by g f (suc i) l = g i (omega (arith, l))

back : (xs : List ℤ) (c : ℤ) (k : ℕ) → Told xs c k → AllFit (times_numbers xs c (unit k))
back [] c zero h = (subst Fits (sym (once c)) h.coefficient, tt)
back (x ∷ xs) c zero h = (subst Fits (sym (once c)) h.coefficient, (subst (λ z. Fits (x +ℤ z)) (sym (once c)) h.sum, tt))
back [] c (suc k) h = (subst Fits (sym (never c)) Fits_0, back [] c k (record { before = λ i l. Fits_0; coefficient = h.coefficient; sum = h.sum }))
back (x ∷ xs) c (suc k) h = (
  subst Fits (sym (never c)) Fits_0,
  (subst Fits (sym (unchanged x c)) (h.before 0 (omega arith)), back xs c k (record { before = λ i l. h.before (suc i) (omega (arith, l)); coefficient = h.coefficient; sum = h.sum })),
)

pub can_add : (f : Affine) (c : ℤ) (k : ℕ) → CanAddTimes f c (column_form (k + 1) k) → CanAdd f c k
can_add f c k h =
    let g = subst (CanAddTimes f c) (unit_is k) h in
    let t = onward f.coefs c k g.0 in
    record { before = t.before; coefficient = t.coefficient; sum = t.sum; konst = subst Fits (unchanged f.konst c) g.2 }

pub can_add_times : (f : Affine) (c : ℤ) (k : ℕ) → CanAdd f c k → CanAddTimes f c (column_form (k + 1) k)
can_add_times f c k h =
    subst (CanAddTimes f c) (sym (unit_is k))
    (back f.coefs c k (record { before = h.before; coefficient = h.coefficient; sum = h.sum }), subst Fits (sym (never c)) Fits_0, subst Fits (sym (unchanged f.konst c)) h.konst)
