-- Numbers divided exactly, and numbers taken modulo a positive number.
use Rattle.std.proofs.Common.{◌≡◌, ℕ, suc, ◌+◌, ◌-◌, ◌*◌, ◌/◌, ◌%◌, ◌<◌, ℤ, pos, negsuc, ◌+ℤ◌, ◌*ℤ◌, neg_ℤ, List, [], ◌∷◌, map, arith, ◌∙◌, sym, ap, refl, unsigned_abs, ◌↔◌}
use Rattle.std.specs.Int.{◌∣◌, int_div_euclid, int_rem_euclid}
use Rattle.std.proofs.lemmas.Int.{ints, unsigned_abs-mul}
use Rattle.std.proofs.lemmas.Nat.Gcd.{dvd_trans}
use Rattle.std.proofs.Math.Nat.{dvd_of_mul-dvd-mul_left, mul-dvd-mul_left}
use Rattle.ac_base.specs.Dot.{dot, floored, residues}
use Rattle.ac_base.specs.Gcd.{DividesEach}
use Rattle.ac_base.specs.Multiple.{IsMultiple}
use Rattle.ac_base.proofs.Dot.{gather}
use Rattle.ac_base.proofs.Floor.{floor_exact, dot-floored}
use Rattle.ac_base.proofs.Products.{mul-add_ℤ, mul-neg_ℤ, le_of_mul-le_ℤ}
use Rattle.ac_base.proofs.Multiples.{multiple_from, multiple_add}
use borrow.Author.Differences.{neg_is}

-- a sum all of whose numbers are divided exactly
pub value_exact : (k : ℕ) (cs p : List ℤ) (c : ℤ) → 0 < k → DividesEach k cs → k ∣ unsigned_abs c → dot cs p +ℤ c ≡ pos k *ℤ (dot (floored (pos k) cs) p +ℤ int_div_euclid c (pos k))
value_exact k cs p c h d e =
    rw (mul-add_ℤ) (ap (λ z. z +ℤ c) (dot-floored k cs p h d) ∙ ap (λ z. pos k *ℤ dot (floored (pos k) cs) p +ℤ z) (floor_exact c k h e))

pub zero_factor : (k : ℕ) (x : ℤ) → 0 < k → pos k *ℤ x ≡ pos 0 → x ≡ pos 0
zero_factor k x h e =
    let a = le_of_mul-le_ℤ k x (pos 0) h (omega (arith, ints)) in
    let b = le_of_mul-le_ℤ k (pos 0) x h (omega (arith, ints)) in
    omega (arith, ints)

-- an equality divided by a divisor of all its numbers
pub eq_keeps : (k : ℕ) (cs p : List ℤ) (c : ℤ) → 0 < k → DividesEach k cs → k ∣ unsigned_abs c → (dot cs p +ℤ c ≡ pos 0) ↔ (dot (floored (pos k) cs) p +ℤ int_div_euclid c (pos k) ≡ pos 0)
eq_keeps k cs p c h d e =
    rw (value_exact k cs p c h d e) ((λ z. zero_factor k (dot (floored (pos k) cs) p +ℤ int_div_euclid c (pos k)) h z), (λ z. rw z (omega (arith, ints))))

-- no integer point meets an equality whose coefficients have a divisor that does not divide the constant
pub eq_absurd : (k : ℕ) (cs p : List ℤ) (c : ℤ) → 0 < k → DividesEach k cs → ¬ (k ∣ unsigned_abs c) → ¬ (dot cs p +ℤ c ≡ pos 0)
eq_absurd k cs p c h d n z = n (multiple_from (pos k) c (neg_ℤ (dot (floored (pos k) cs) p)) (constant_of k c (dot (floored (pos k) cs) p) (rw (dot-floored k cs p h d) at z)))
  where
    constant_of : (k : ℕ) (c x : ℤ) → pos k *ℤ x +ℤ c ≡ pos 0 → c ≡ pos k *ℤ neg_ℤ x
    constant_of k c x e = rw mul-neg_ℤ (omega (arith, ints))

-- a divisor of the modulus and of all numbers divides out
pub div_keeps : (h m : ℕ) (cs p : List ℤ) (c : ℤ) → 0 < h → DividesEach h cs → h ∣ unsigned_abs c
    → IsMultiple (pos (h * m)) (dot cs p +ℤ c) ↔ IsMultiple (pos m) (dot (floored (pos h) cs) p +ℤ int_div_euclid c (pos h))
div_keeps h m cs p c l d e =
    let a = unsigned_abs-mul (pos h) (dot (floored (pos h) cs) p +ℤ int_div_euclid c (pos h)) in
    rw (value_exact h cs p c l d e, a) ((λ q. dvd_of_mul-dvd-mul_left m l q), (λ q. mul-dvd-mul_left m h q))

-- a multiple of h plus c is a multiple of h only where c is
pub div_absurd : (h m : ℕ) (cs p : List ℤ) (c : ℤ) → 0 < h → DividesEach h cs → ¬ (h ∣ unsigned_abs c) → ¬ (IsMultiple (pos (h * m)) (dot cs p +ℤ c))
div_absurd h m cs p c l d n q =
    n (rw (one_out (pos h) (dot (floored (pos h) cs) p) c)
    (multiple_add (pos h) (pos 1) (pos h *ℤ dot (floored (pos h) cs) p +ℤ c) (neg_ℤ (pos 1)) (pos h *ℤ dot (floored (pos h) cs) p)
    (dvd_trans h (multiple_from (pos h) (pos (h * m)) (pos m) refl) (rw (dot-floored h cs p l d) at q))
    (multiple_from (pos h) (pos h *ℤ dot (floored (pos h) cs) p) (dot (floored (pos h) cs) p) refl)))
  where
    one_out : (h x c : ℤ) → c ≡ pos 1 *ℤ (h *ℤ x +ℤ c) +ℤ neg_ℤ (pos 1) *ℤ (h *ℤ x)
    one_out h x c = omega (arith, ints)

-- the quotient and the remainder
pub split_mod : (a : ℤ) (m : ℕ) → 0 < m → a ≡ pos m *ℤ int_div_euclid a (pos m) +ℤ int_rem_euclid a (pos m)
split_mod (pos a) m h = omega (arith, ints)
split_mod (negsuc a) m h = omega (arith, ints, neg_is (pos (m * suc (a / m))))

-- the remainder is one of 0, .., m - 1
pub class_of : (a : ℤ) (m : ℕ) → 0 < m → (i : ℕ) × (i < m) × (int_rem_euclid a (pos m) ≡ pos i)
class_of (pos a) m h = (a % m, omega arith, refl)
class_of (negsuc a) m h = (m - 1 - a % m, omega arith, refl)

pub dot-mod : (m : ℕ) (cs p : List ℤ) → 0 < m → dot cs p ≡ pos m *ℤ dot (map (λ c. int_div_euclid c (pos m)) cs) p +ℤ dot (map (λ c. int_rem_euclid c (pos m)) cs) p
dot-mod m [] p h = omega (arith, ints)
dot-mod m (c ∷ cs) [] h = omega (arith, ints)
dot-mod m (c ∷ cs) (x ∷ p) h =
    ap (λ z. z *ℤ x +ℤ dot cs p) (split_mod c m h) ∙ ap (λ z. (pos m *ℤ int_div_euclid c (pos m) +ℤ int_rem_euclid c (pos m)) *ℤ x +ℤ z) (dot-mod m cs p h)
    ∙ joined (pos m) (int_div_euclid c (pos m)) (int_rem_euclid c (pos m)) x (dot (map (λ c. int_div_euclid c (pos m)) cs) p) (dot (map (λ c. int_rem_euclid c (pos m)) cs) p)
  where
    joined : (m q r x u v : ℤ) → (m *ℤ q +ℤ r) *ℤ x +ℤ (m *ℤ u +ℤ v) ≡ m *ℤ (q *ℤ x +ℤ u) +ℤ (r *ℤ x +ℤ v)
    joined m q r x u v = simp gather (omega (arith, ints))

values_apart : (m q r d e : ℤ) → m *ℤ d +ℤ e +ℤ (m *ℤ q +ℤ r) ≡ m *ℤ (d +ℤ q) +ℤ (e +ℤ r)
values_apart m q r d e = simp gather (omega (arith, ints))

-- a sum whose numbers are taken modulo m
pub value-mod : (m : ℕ) (cs p : List ℤ) (c : ℤ) → 0 < m
    → dot cs p +ℤ c ≡ pos m *ℤ (dot (floored (pos m) cs) p +ℤ int_div_euclid c (pos m)) +ℤ (dot (residues (pos m) cs) p +ℤ int_rem_euclid c (pos m))
value-mod m cs p c h =
    ap (λ z. z +ℤ c) (dot-mod m cs p h)
    ∙ ap (λ z. pos m *ℤ dot (floored (pos m) cs) p +ℤ dot (residues (pos m) cs) p +ℤ z) (split_mod c m h)
    ∙ values_apart (pos m) (int_div_euclid c (pos m)) (int_rem_euclid c (pos m)) (dot (floored (pos m) cs) p) (dot (residues (pos m) cs) p)

multiple_out : (m : ℕ) (q r : ℤ) → IsMultiple (pos m) (pos m *ℤ q +ℤ r) → IsMultiple (pos m) r
multiple_out m q r h =
    rw (one_out (pos m) q r) (multiple_add (pos m) (pos 1) (pos m *ℤ q +ℤ r) (neg_ℤ (pos 1)) (pos m *ℤ q) h (multiple_from (pos m) (pos m *ℤ q) q refl))
  where
    one_out : (h x c : ℤ) → c ≡ pos 1 *ℤ (h *ℤ x +ℤ c) +ℤ neg_ℤ (pos 1) *ℤ (h *ℤ x)
    one_out h x c = omega (arith, ints)

multiple_in : (m : ℕ) (q r : ℤ) → IsMultiple (pos m) r → IsMultiple (pos m) (pos m *ℤ q +ℤ r)
multiple_in m q r h =
    rw (both_in (pos m) q r) (multiple_add (pos m) (pos 1) (pos m *ℤ q) (pos 1) r (multiple_from (pos m) (pos m *ℤ q) q refl) h)
  where
    both_in : (h x c : ℤ) → h *ℤ x +ℤ c ≡ pos 1 *ℤ (h *ℤ x) +ℤ pos 1 *ℤ c
    both_in h x c = omega (arith, ints)

-- a multiple of m stays one when its numbers are taken modulo m
pub mod_keeps : (m : ℕ) (cs p : List ℤ) (c : ℤ) → 0 < m → IsMultiple (pos m) (dot cs p +ℤ c) ↔ IsMultiple (pos m) (dot (residues (pos m) cs) p +ℤ int_rem_euclid c (pos m))
mod_keeps m cs p c h =
    rw (value-mod m cs p c h) ((λ q. multiple_out m _ _ q), (λ q. multiple_in m _ _ q))
