-- Quotients, remainders and sums of numbers of which the absolute value is at most 2^122.
use Rattle.std.proofs.Common.{◌≡◌, ℕ, zero, suc, ◌+◌, ◌^◌, ◌<◌, ◌≤◌, ℤ, pos, negsuc, neg_ℤ, ◌+ℤ◌, ◌*ℤ◌, ◌≤ℤ◌, ◌<ℤ◌, List, [], ◌∷◌, get_or, unsigned_abs, refl, sym, ap, ◌∙◌, arith}
use Rattle.std.specs.Int.{int_div_euclid, int_rem_euclid, w128, ◌∣◌}
use Rattle.std.proofs.lemmas.Int.{ints, fits_signed_from_abs, by_lt_z}
use Rattle.ac_base.specs.Gcd.{gcd, gcd_all}
use Rattle.ac_base.proofs.Contents.{gcd_lt}
use Rattle.ac_base.proofs.Floor.{floor_exact, floor_le, lt_floor}
use Rattle.ac_base.proofs.Multiples.{multiple_from}
use Rattle.ac_base.proofs.Products.{le_of_mul-le_ℤ, mul-le-mul_ℤ, mul-add_ℤ, mul-neg_ℤ}
use Rattle.ac_base.proofs.Residues.{split_mod, class_of}
use Rattle.ac_forms.specs.Affine.{MixFits}
use Rattle.ac_forms.specs.Fits.{Fits}

pub fits_small : (z : ℤ) → unsigned_abs z ≤ 2 ^ 124 → Fits z
fits_small z h = fits_signed_from_abs w128 z (omega arith)

-- a quotient is not greater
pub floor_small : (c : ℤ) (k : ℕ) → 0 < k → unsigned_abs (int_div_euclid c (pos k)) ≤ unsigned_abs c
floor_small (pos a) k h = omega arith
floor_small (negsuc a) k h = omega arith

pub once_small : (c : ℤ) → unsigned_abs (pos 1 *ℤ c) ≡ unsigned_abs c
once_small (pos a) = omega (arith, ints)
once_small (negsuc a) = omega (arith, ints)

pub turned_small : (c : ℤ) → unsigned_abs (negsuc 0 *ℤ c) ≡ unsigned_abs c
turned_small (pos zero) = refl
turned_small (pos (suc a)) = omega (arith, ints)
turned_small (negsuc a) = omega (arith, ints)

add_small : (x y : ℤ) → unsigned_abs (x +ℤ y) ≤ unsigned_abs x + unsigned_abs y
add_small (pos a) (pos b) = omega (arith, ints)
add_small (pos a) (negsuc b) = omega (arith, ints)
add_small (negsuc a) (pos b) = omega (arith, ints)
add_small (negsuc a) (negsuc b) = omega (arith, ints)

-- the product and the sums of a combination with the factors 1 and 1, or 1 and -1
pub sum_fits : (x y : ℤ) → unsigned_abs x ≤ 2 ^ 123 → unsigned_abs y ≤ 2 ^ 123 → MixFits (pos 1) x (pos 1) y
sum_fits x y h k =
    (fits_small (pos 1 *ℤ x) (omega (arith, once_small x)), fits_small (pos 1 *ℤ y) (omega (arith, once_small y)), fits_small (pos 1 *ℤ x +ℤ pos 1 *ℤ y) (omega (arith, once_small x, once_small y, add_small (pos 1 *ℤ x) (pos 1 *ℤ y))))

pub difference_fits : (x y : ℤ) → unsigned_abs x ≤ 2 ^ 123 → unsigned_abs y ≤ 2 ^ 123 → MixFits (pos 1) x (negsuc 0) y
difference_fits x y h k =
    (fits_small (pos 1 *ℤ x) (omega (arith, once_small x)), fits_small (negsuc 0 *ℤ y) (omega (arith, turned_small y)), fits_small (pos 1 *ℤ x +ℤ negsuc 0 *ℤ y) (omega (arith, once_small x, turned_small y, add_small (pos 1 *ℤ x) (negsuc 0 *ℤ y))))

-- a positive factor cancels
pub cancel_left : (k : ℕ) (x y : ℤ) → 0 < k → pos k *ℤ x ≡ pos k *ℤ y → x ≡ y
cancel_left k x y h e =
    let a = le_of_mul-le_ℤ k x y h (omega (arith, ints)) in
    let b = le_of_mul-le_ℤ k y x h (omega (arith, ints)) in
    omega (arith, ints)

-- the quotient of a multiple
pub floor_multiple : (k : ℕ) (q : ℤ) → 0 < k → int_div_euclid (pos k *ℤ q) (pos k) ≡ q
floor_multiple k q h = cancel_left k (int_div_euclid (pos k *ℤ q) (pos k)) q h (sym (floor_exact (pos k *ℤ q) k h (multiple_from (pos k) (pos k *ℤ q) q refl)))

turned_multiple : (k q : ℤ) → negsuc 0 *ℤ (k *ℤ q) ≡ k *ℤ neg_ℤ q
turned_multiple k q = rw mul-neg_ℤ (omega (arith, ints))

-- the quotient of the opposite, where the division is exact
pub floor_turned : (c : ℤ) (k : ℕ) → 0 < k → k ∣ unsigned_abs c → int_div_euclid (negsuc 0 *ℤ c) (pos k) ≡ neg_ℤ (int_div_euclid c (pos k))
floor_turned c k h d =
    let q = int_div_euclid c (pos k) in
    ap (λ z. int_div_euclid (negsuc 0 *ℤ z) (pos k)) (floor_exact c k h d) ∙ ap (λ z. int_div_euclid z (pos k)) (turned_multiple (pos k) q) ∙ floor_multiple k (neg_ℤ q) h

-- both quotients together, where the division is exact: none
pub floors_cancel : (c : ℤ) (k : ℕ) → 0 < k → k ∣ unsigned_abs c → int_div_euclid (pos 1 *ℤ c) (pos k) +ℤ int_div_euclid (negsuc 0 *ℤ c) (pos k) ≡ pos 0
floors_cancel c k h d = rw (one c, floor_turned c k h d) (opposite (int_div_euclid c (pos k)))
  where
    one : (c : ℤ) → pos 1 *ℤ c ≡ c
    one c = omega (arith, ints)

    opposite : (q : ℤ) → q +ℤ neg_ℤ q ≡ pos 0
    opposite q = omega (arith, ints)

-- and where it is not: -1
between : (k : ℕ) (s : ℤ) → 0 < k → (pos k *ℤ s) <ℤ pos 0 → pos 0 <ℤ (pos k *ℤ s +ℤ pos k +ℤ pos k) → s ≡ negsuc 0
between k s h low high = by_lt_z s (pos 0) (λ l. by_lt_z s (negsuc 0) (λ m. absurd (omega (arith, ints, mul-le-mul_ℤ k s (negsuc 1) (omega (arith, ints)), minus_two k))) (λ m. omega (arith, ints))) (λ l. absurd (omega (arith, ints, mul-le-mul_ℤ k (pos 0) s l)))
  where
    minus_two : (k : ℕ) → pos k *ℤ negsuc 1 +ℤ pos k +ℤ pos k ≡ pos 0
    minus_two k = omega (arith, ints)

pub floors_meet : (c : ℤ) (k : ℕ) → 0 < k → ¬ (k ∣ unsigned_abs c) → int_div_euclid (pos 1 *ℤ c) (pos k) +ℤ int_div_euclid (negsuc 0 *ℤ c) (pos k) ≡ negsuc 0
floors_meet c k h n =
    meet (pos 1 *ℤ c) (negsuc 0 *ℤ c) (int_div_euclid (pos 1 *ℤ c) (pos k)) (int_div_euclid (negsuc 0 *ℤ c) (pos k)) (none c) (λ e. n (multiple_from (pos k) c (int_div_euclid (pos 1 *ℤ c) (pos k)) (one c ∙ e))) (floor_le (pos 1 *ℤ c) k h) (floor_le (negsuc 0 *ℤ c) k h) (lt_floor (pos 1 *ℤ c) k h) (lt_floor (negsuc 0 *ℤ c) k h)
  where
    one : (c : ℤ) → c ≡ pos 1 *ℤ c
    one c = omega (arith, ints)

    none : (c : ℤ) → pos 1 *ℤ c +ℤ negsuc 0 *ℤ c ≡ pos 0
    none c = omega (arith, ints)

    meet : (x y a b : ℤ) → x +ℤ y ≡ pos 0 → (x ≡ pos k *ℤ a → ⊥) → (pos k *ℤ a) ≤ℤ x → (pos k *ℤ b) ≤ℤ y → x <ℤ (pos k *ℤ a +ℤ pos k) → y <ℤ (pos k *ℤ b +ℤ pos k) → a +ℤ b ≡ negsuc 0
    meet x y a b e apart la lb ha hb =
        between k (a +ℤ b) h (rw (mul-add_ℤ (pos k) a b) (low (pos k *ℤ a) (pos k *ℤ b) apart la lb)) (rw (mul-add_ℤ (pos k) a b) (omega (arith, ints)))
      where
        low : (p q : ℤ) → (x ≡ p → ⊥) → p ≤ℤ x → q ≤ℤ y → (p +ℤ q) <ℤ pos 0
        low p q apart la lb = by_lt_z (p +ℤ q) (pos 0) (λ l. l) (λ l. absurd (apart (omega (arith, ints))))

-- a number and its remainder: the difference is a multiple of the modulus, and not large
pub rest_multiple : (c : ℤ) (m : ℕ) → 0 < m → c +ℤ neg_ℤ (int_rem_euclid c (pos m)) ≡ pos m *ℤ int_div_euclid c (pos m)
rest_multiple c m h = by c (pos m *ℤ int_div_euclid c (pos m)) (int_rem_euclid c (pos m)) (split_mod c m h)
  where
    by : (c p r : ℤ) → c ≡ p +ℤ r → c +ℤ neg_ℤ r ≡ p
    by c p r e = omega (arith, ints)

pub rest_small : (c : ℤ) (m : ℕ) → 0 < m → unsigned_abs (int_rem_euclid c (pos m)) ≤ m
rest_small c m h = let r = class_of c m h in rw r.2 (omega (arith, r.1))

pub turned_is : (z : ℤ) → unsigned_abs (neg_ℤ z) ≡ unsigned_abs z
turned_is (pos zero) = refl
turned_is (pos (suc n)) = refl
turned_is (negsuc n) = refl

pub less_small : (x y : ℤ) → unsigned_abs (x +ℤ neg_ℤ y) ≤ unsigned_abs x + unsigned_abs y
less_small x y = omega (arith, add_small x (neg_ℤ y), turned_is y)

-- the greatest common divisor of small numbers is small
pub gcd_all_small : (n d : ℕ) (cs : List ℤ) → d < n → ((j : ℕ) → unsigned_abs (get_or cs j (pos 0)) < n) → gcd_all d cs < n
gcd_all_small n d [] h e = h
gcd_all_small n d (c ∷ cs) h e = gcd_all_small n (gcd d (unsigned_abs c)) cs (gcd_lt d (unsigned_abs c) n h (e 0)) (λ j. e (suc j))
