-- Sums of two numbers that may leave `i128`, and of two lists of coefficients, column by column.
use Rattle.std.proofs.Common.{◌≡◌, ℕ, zero, suc, ◌+◌, ◌<◌, ◌≤◌, ◌^◌, max, ℤ, pos, negsuc, ◌+ℤ◌, ◌≤ℤ◌, ◌<ℤ◌, List, [], ◌∷◌, length, drop, get_or, Bool, true, false, int_eq, int_le, int_cmp, refl, sym, ◌∙◌, subst, arith}
use Rattle.std.specs.Int.Signed.{lt_z}
use Rattle.std.specs.Ordering.{is_eq}
use Rattle.std.specs.declared.cmp.Ordering.{Ordering}
use Rattle.std.specs.declared.cmp.Ordering.TheVariants.{Less, Equal, Greater}
use Rattle.std.proofs.lemmas.Cmp.{tied_itself, int_cmp_total}
use Rattle.std.proofs.lemmas.Int.{ints, by_lt_z}
use Rattle.ac_forms.specs.Affine.{plus}
use Rattle.ac_forms.specs.Fits.{Fits}
use Rattle.ac_forms.specs.FormOrder.{columns_cmp}
use Rattle.ac_forms.specs.Ties.{int_tied}
use Rattle.ac_forms.proofs.Comparing.{compare_on, compare_found, compare_end}

-- a sum that leaves the range is no number of it
pub past_sum : (x y s : ℤ) → Fits s → ¬ Fits (x +ℤ y) → false ≡ int_eq (x +ℤ y) s
past_sum x y s f n = by (int_eq (x +ℤ y) s) refl
  where
    by : (b : Bool) → int_eq (x +ℤ y) s ≡ b → false ≡ b
    by false e = refl
    by true e = let is : x +ℤ y ≡ s = grind (arith, ints, e) in absurd (n (subst Fits (sym is) f))

within : (z : ℤ) → (z <ℤ pos (2 ^ 127)) → (negsuc (2 ^ 127) <ℤ z) → Fits z
within (pos n) h l = record { sfits = omega (arith, ints, h) }
within (negsuc n) h l = record { sfits = omega (arith, ints, l) }

-- it is less than each exactly where the first number is negative
pub sum_below : (x y s : ℤ) → Fits x → Fits y → Fits s → ¬ Fits (x +ℤ y) → lt_z x (pos 0) ≡ int_le (x +ℤ y) s
sum_below x y s fx fy fs n = by (lt_z x (pos 0)) (int_le (x +ℤ y) s) refl refl
  where
    low : x <ℤ pos 0 → (x +ℤ y) ≤ℤ s
    low h = by_lt_z (x +ℤ y) s (λ l. omega (arith, ints, l)) (λ l. absurd (n (within (x +ℤ y) (omega (arith, ints, fx, fy, h)) (omega (arith, ints, fs, l)))))

    high : pos 0 ≤ℤ x → (x +ℤ y) ≤ℤ s → ⊥
    high h l = n (within (x +ℤ y) (omega (arith, ints, fs, l)) (omega (arith, ints, fy, h)))

    by : (a b : Bool) → lt_z x (pos 0) ≡ a → int_le (x +ℤ y) s ≡ b → a ≡ b
    by true true e g = refl
    by false false e g = refl
    by true false e g = let h : x <ℤ pos 0 = grind (arith, ints, e) in let l = low h in absurd (grind (arith, ints, g, l))
    by false true e g = let h : pos 0 ≤ℤ x = grind (arith, ints, e) in let l : (x +ℤ y) ≤ℤ s = grind (arith, ints, g) in absurd (high h l)

pub length-plus : (xs ys : List ℤ) → length (plus xs ys) ≡ max (length xs) (length ys)
length-plus [] ys = omega arith
length-plus (x ∷ xs) [] = omega arith
length-plus (x ∷ xs) (y ∷ ys) = let e = length-plus xs ys in omega (arith, e)

pub get_or-plus : (xs ys : List ℤ) (j : ℕ) → get_or (plus xs ys) j (pos 0) ≡ get_or xs j (pos 0) +ℤ get_or ys j (pos 0)
get_or-plus [] ys j = omega (arith, ints)
get_or-plus (x ∷ xs) [] j = omega (arith, ints)
get_or-plus (x ∷ xs) (y ∷ ys) zero = refl
get_or-plus (x ∷ xs) (y ∷ ys) (suc j) = get_or-plus xs ys j

abbrev at : List ℤ → ℕ → ℤ
at xs i = get_or xs i (pos 0)

same-cmp : (x y : ℤ) → x ≡ y → Equal ≡ int_cmp x y
same-cmp x y e = rw e (sym (tied_itself int_cmp_total y))

-- one column further
pub sum_on : (l r s : List ℤ) (i : ℕ) (b : Bool) → columns_cmp (plus l r) s ≡ columns_cmp (drop i (plus l r)) (drop i s) → i < max (max (length l) (length r)) (length s)
    → b ≡ int_eq (get_or l i (pos 0) +ℤ get_or r i (pos 0)) (get_or s i (pos 0)) → b ≡ true → columns_cmp (plus l r) s ≡ columns_cmp (drop (i + 1) (plus l r)) (drop (i + 1) s)
sum_on l r s i b h k e t =
    let n = length-plus l r in
    let is : at l i +ℤ at r i ≡ at s i = grind (arith, ints, e, t) in
    compare_on (plus l r) s i Equal h (omega (arith, n, k)) (same-cmp (at (plus l r) i) (at s i) (get_or-plus l r i ∙ is)) refl

not-equal : (o : Ordering) → (o ≡ Equal → ⊥) → false ≡ is_eq o
not-equal Less h = refl
not-equal Equal h = absurd (h refl)
not-equal Greater h = refl

-- a column in which they differ
pub sum_found : (l r s : List ℤ) (i : ℕ) (b : Bool) → columns_cmp (plus l r) s ≡ columns_cmp (drop i (plus l r)) (drop i s) → i < max (max (length l) (length r)) (length s)
    → b ≡ int_eq (get_or l i (pos 0) +ℤ get_or r i (pos 0)) (get_or s i (pos 0)) → b ≡ false → false ≡ is_eq (columns_cmp (plus l r) s)
sum_found l r s i b h k e t =
    let n = length-plus l r in
    let apart : int_cmp (at (plus l r) i) (at s i) ≡ Equal → ⊥ = λ q. let is = sym (get_or-plus l r i) ∙ int_tied (at (plus l r) i) (at s i) q in absurd (grind (arith, ints, e, t, is)) in
    not-equal (columns_cmp (plus l r) s) (subst (λ (o : Ordering). o ≡ Equal → ⊥) (compare_found (plus l r) s i (int_cmp (at (plus l r) i) (at s i)) h (omega (arith, n, k)) refl apart) apart)

-- behind all columns
pub sum_end : (l r s : List ℤ) (i : ℕ) → columns_cmp (plus l r) s ≡ columns_cmp (drop i (plus l r)) (drop i s) → max (max (length l) (length r)) (length s) ≤ i → true ≡ is_eq (columns_cmp (plus l r) s)
sum_end l r s i h k = let n = length-plus l r in rw (← compare_end (plus l r) s i h (omega (arith, n, k))) refl

pub ruleset sum_steps = (sum_on, sum_found, sum_end)
