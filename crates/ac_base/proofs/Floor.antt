-- Division by a positive number, rounded down.
use Rattle.std.proofs.Common.{◌≡◌, ℕ, zero, suc, ◌+◌, ◌-◌, ◌*◌, ◌/◌, ◌<◌, ◌≤◌, ℤ, pos, negsuc, ◌+ℤ◌, ◌-ℤ◌, ◌*ℤ◌, neg_ℤ, ◌≤ℤ◌, ◌<ℤ◌, List, [], ◌∷◌, unsigned_abs, arith, refl, sym, ap, ◌∙◌, ◌↔◌}
use Rattle.std.specs.Int.{int_div_euclid, ◌∣◌}
use Rattle.std.proofs.Math.Nat.{mul-div_cancel'}
use Rattle.ac_base.specs.Gcd.{DividesEach}
use Rattle.std.proofs.lemmas.Int.{ints, by_lt_z}
use Rattle.std.proofs.lemmas.Nat.{div-mul-add}
use borrow.Author.Differences.{up, down, same_in, neg_is}
use Rattle.ac_base.specs.Dot.{dot, floored}
use Rattle.ac_base.proofs.Dot.{gather}
use Rattle.ac_base.proofs.Products.{mul-le-mul_ℤ, mul-add_ℤ, mul-neg_ℤ}

-- q = a / k, rounded down, has k * q ≤ a < k * q + k
pub floor-parts : (a : ℤ) (k : ℕ) → 0 < k → (k * up (int_div_euclid a (pos k)) + down a ≤ k * down (int_div_euclid a (pos k)) + up a) × (k * down (int_div_euclid a (pos k)) + up a < k * up (int_div_euclid a (pos k)) + down a + k)
floor-parts (pos a) k h = omega arith
floor-parts (negsuc a) k h = omega arith

pub floor_le : (a : ℤ) (k : ℕ) → 0 < k → (pos k *ℤ int_div_euclid a (pos k)) ≤ℤ a
floor_le a k h = omega (arith, ints, floor-parts a k h)

pub lt_floor : (a : ℤ) (k : ℕ) → 0 < k → a <ℤ (pos k *ℤ int_div_euclid a (pos k) +ℤ pos k)
lt_floor a k h = omega (arith, ints, floor-parts a k h)

exact_negative : (a k q : ℕ) → 0 < k → suc a ≡ k * q → suc a ≡ k * suc (a / k)
exact_negative a k zero h e = absurd (omega arith)
exact_negative a k (suc q) h e =
    let d = div-mul-add q k (k - 1) (omega arith) in
    let f : q * k + (k - 1) ≡ a = omega arith in
    let g : a / k ≡ q = sym (ap (λ n. n / k) f) ∙ d in
    omega (arith, ap (λ n. k * n) g)

-- an exact quotient
pub floor_exact : (a : ℤ) (k : ℕ) → 0 < k → k ∣ unsigned_abs a → a ≡ pos k *ℤ int_div_euclid a (pos k)
floor_exact (pos a) k h d = ap pos (sym (mul-div_cancel' k d))
floor_exact (negsuc a) k h d =
    let e = exact_negative a k (suc a / k) h (sym (mul-div_cancel' k d)) in
    same_in _ _ (omega (arith, neg_is (pos (k * suc (a / k))), e))

drawn_out : (k q x d : ℤ) → (k *ℤ q) *ℤ x +ℤ k *ℤ d ≡ k *ℤ (q *ℤ x +ℤ d)
drawn_out k q x d = simp gather refl

pub dot-floored : (k : ℕ) (cs p : List ℤ) → 0 < k → DividesEach k cs → dot cs p ≡ pos k *ℤ dot (floored (pos k) cs) p
dot-floored k [] p h d = omega (arith, ints)
dot-floored k (c ∷ cs) [] h d = omega (arith, ints)
dot-floored k (c ∷ cs) (x ∷ p) h d =
    ap (λ z. z *ℤ x +ℤ dot cs p) (floor_exact c k h d.0) ∙ ap (λ z. (pos k *ℤ int_div_euclid c (pos k)) *ℤ x +ℤ z) (dot-floored k cs p h d.1)
    ∙ drawn_out (pos k) (int_div_euclid c (pos k)) x (dot (floored (pos k) cs) p)

-- the cut rule on values: where k x + c is not negative, neither is x plus c / k rounded down
pub sign_kept : (k : ℕ) (x c : ℤ) → 0 < k → pos 0 ≤ℤ (pos k *ℤ x +ℤ c) → pos 0 ≤ℤ (x +ℤ int_div_euclid c (pos k))
sign_kept k x c h l =
    let q = int_div_euclid c (pos k) in
    by_lt_z (x +ℤ q) (pos 0)
    (λ m.
    let n : (x +ℤ q +ℤ pos 1) ≤ℤ pos 0 = omega (arith, ints) in
    absurd (omega (arith, ints, mul-le-mul_ℤ k (x +ℤ q +ℤ pos 1) (pos 0) n, mul-add_ℤ (pos k) (x +ℤ q) (pos 1), mul-add_ℤ (pos k) x q, lt_floor c k h)))
    (λ m. m)

-- and back
pub sign_back : (k : ℕ) (x c : ℤ) → 0 < k → pos 0 ≤ℤ (x +ℤ int_div_euclid c (pos k)) → pos 0 ≤ℤ (pos k *ℤ x +ℤ c)
sign_back k x c h l =
    let q = int_div_euclid c (pos k) in
    omega (arith, ints, mul-le-mul_ℤ k (pos 0) (x +ℤ q) l, mul-add_ℤ (pos k) x q, floor_le c k h)

-- the cut rule: a divisor of all coefficients divides out, the constant is rounded down, and no integer point is lost or won
pub cut_keeps : (k : ℕ) (cs p : List ℤ) (c : ℤ) → 0 < k → DividesEach k cs → pos 0 ≤ℤ (dot cs p +ℤ c) → pos 0 ≤ℤ (dot (floored (pos k) cs) p +ℤ int_div_euclid c (pos k))
cut_keeps k cs p c h d l = sign_kept k (dot (floored (pos k) cs) p) c h (rw (dot-floored k cs p h d) at l)

pub cut_back : (k : ℕ) (cs p : List ℤ) (c : ℤ) → 0 < k → DividesEach k cs → pos 0 ≤ℤ (dot (floored (pos k) cs) p +ℤ int_div_euclid c (pos k)) → pos 0 ≤ℤ (dot cs p +ℤ c)
cut_back k cs p c h d l = rw (dot-floored k cs p h d) (sign_back k (dot (floored (pos k) cs) p) c h l)

-- a positive integer is a natural number
pub positive_is : (d : ℤ) → pos 1 ≤ℤ d → (k : ℕ) × (0 < k) × (d ≡ pos k)
positive_is (pos k) h = (k, omega (arith, ints), refl)
positive_is (negsuc k) h = absurd (omega (arith, ints))

pub floor_low : (a d : ℤ) → pos 1 ≤ℤ d → (d *ℤ int_div_euclid a d) ≤ℤ a
floor_low a d h = let s = positive_is d h in rw s.2 (floor_le a s.0 s.1)

pub floor_high : (a d : ℤ) → pos 1 ≤ℤ d → a <ℤ (d *ℤ int_div_euclid a d +ℤ d)
floor_high a d h = let s = positive_is d h in rw s.2 (lt_floor a s.0 s.1)

pub cut_both : (d : ℤ) (cs p : List ℤ) (c : ℤ) → pos 1 ≤ℤ d → DividesEach (unsigned_abs d) cs → (pos 0 ≤ℤ (dot cs p +ℤ c)) ↔ (pos 0 ≤ℤ (dot (floored d cs) p +ℤ int_div_euclid c d))
cut_both d cs p c h e =
    let s = positive_is d h in
    let f : DividesEach s.0 cs = rw s.2 at e in
    rw s.2 ((λ l. cut_keeps s.0 cs p c s.1 f l), (λ l. cut_back s.0 cs p c s.1 f l))

at_most : (k : ℕ) (a q r : ℤ) → (pos k *ℤ q) ≤ℤ a → a <ℤ (pos k *ℤ r +ℤ pos k) → q ≤ℤ r
at_most k a q r low high =
    by_lt_z r q
    (λ m.
    let n : (r +ℤ pos 1) ≤ℤ q = omega (arith, ints) in
    absurd (omega (arith, ints, mul-le-mul_ℤ k (r +ℤ pos 1) q n, mul-add_ℤ (pos k) r (pos 1))))
    (λ m. m)

-- one integer alone has d * q ≤ a < d * q + d
pub floor_unique : (a d q : ℤ) → pos 1 ≤ℤ d → (d *ℤ q) ≤ℤ a → a <ℤ (d *ℤ q +ℤ d) → q ≡ int_div_euclid a d
floor_unique a d q h low high =
    let s = positive_is d h in
    let r = int_div_euclid a d in
    let below : (pos s.0 *ℤ q) ≤ℤ a = rw s.2 at low in
    let above : a <ℤ (pos s.0 *ℤ q +ℤ pos s.0) = rw s.2 at high in
    let low_r : (pos s.0 *ℤ r) ≤ℤ a = rw (← s.2) (floor_low a d h) in
    let high_r : a <ℤ (pos s.0 *ℤ r +ℤ pos s.0) = rw (← s.2) (floor_high a d h) in
    omega (arith, ints, at_most s.0 a q r below high_r, at_most s.0 a r q low_r above)

-- the quotient is the greatest integer q with d * q ≤ a
pub floor_greatest : (a d q : ℤ) → pos 1 ≤ℤ d → (d *ℤ q) ≤ℤ a → q ≤ℤ int_div_euclid a d
floor_greatest a d q h low =
    let s = positive_is d h in
    let r = int_div_euclid a d in
    let below : (pos s.0 *ℤ q) ≤ℤ a = rw s.2 at low in
    let above : a <ℤ (pos s.0 *ℤ r +ℤ pos s.0) = rw (← s.2) (floor_high a d h) in
    at_most s.0 a q r below above

-- the quotient rounded up
pub ceil_is : (a d : ℤ) → pos 1 ≤ℤ d → neg_ℤ (int_div_euclid (neg_ℤ a) d) ≡ int_div_euclid (a +ℤ (d -ℤ pos 1)) d
ceil_is a d h =
    let q = int_div_euclid (neg_ℤ a) d in
    let low = floor_low (neg_ℤ a) d h in
    let high = floor_high (neg_ℤ a) d h in
    let e = mul-neg_ℤ d q in
    floor_unique (a +ℤ (d -ℤ pos 1)) d (neg_ℤ q) h (omega (arith, ints, low, high, e)) (omega (arith, ints, low, high, e))
