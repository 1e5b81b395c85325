-- A pair of bounds on one integer: the dark shadow and the splinters (W. Pugh, The Omega test, 1991).
use Rattle.std.proofs.Common.{◌≡◌, ℕ, suc, ◌+◌, ◌*◌, ◌<◌, ◌≤◌, ℤ, pos, negsuc, ◌+ℤ◌, ◌-ℤ◌, ◌*ℤ◌, neg_ℤ, ◌≤ℤ◌, arith, unsigned_abs, ◌-◌, ⊎_elim, mul-le-mul_left, mul-le-mul_right}
use Rattle.std.specs.Int.{◌∣◌}
use Rattle.std.proofs.lemmas.Int.{ints, unsigned_abs-mul, by_lt_z}
use Rattle.std.proofs.Math.Logic.{∥∥₁_elim, ∥∥₁_map}
use Rattle.ac_base.proofs.Ring.{ring_steps, same_diff, by_diff_3, by_diff_5}
use Rattle.ac_base.proofs.Products.{mul-le-mul_ℤ, mul-neg_ℤ}
use Rattle.std.proofs.lemmas.Bool.{cases_lt}
use Rattle.ac_base.proofs.Dot.{gather}

-- the dark shadow: z is the least integer with b * z + e not negative, and a * e + b * f is large enough; then a * z is at most f
pub dark_shadow : (a b : ℕ) (z e f : ℤ) → (pos (suc b) *ℤ z +ℤ e) ≤ℤ pos b → pos (a * b) ≤ℤ (pos (suc a) *ℤ e +ℤ pos (suc b) *ℤ f) → (pos (suc a) *ℤ z) ≤ℤ f
dark_shadow a b z e f least dark =
    by_lt_z f (pos (suc a) *ℤ z)
    (λ above.
    let n : (f +ℤ pos 1) ≤ℤ (pos (suc a) *ℤ z) = omega (arith, ints) in
    let p = simp gather at (mul-le-mul_ℤ (suc a) (pos (suc b) *ℤ z +ℤ e) (pos b) least) in
    let q = simp gather at (mul-le-mul_ℤ (suc b) (f +ℤ pos 1) (pos (suc a) *ℤ z) n) in
    let c : pos (suc a) *ℤ (pos (suc b) *ℤ z) ≡ pos (suc b) *ℤ (pos (suc a) *ℤ z) = left_comm (pos (suc a)) (pos (suc b)) z in
    absurd (omega (arith, ints, p, q, c)))
    (λ h. h)
  where
    left_comm : (x y z : ℤ) → x *ℤ (y *ℤ z) ≡ y *ℤ (x *ℤ z)
    left_comm = by_diff_3 (λ x y z. x *ℤ (y *ℤ z) ≡ y *ℤ (x *ℤ z)) (λ a a' b b' c c'. simp ring_steps (same_diff _ _ _ _ (omega arith)))

-- a smaller factor keeps the bound: (a + 1) * x is at least a * b, where (c + 1) * x is at least c * b and a is at most c
pub smaller_factor : (a c b x : ℕ) → a ≤ c → c * b ≤ suc c * x → a * b ≤ suc a * x
smaller_factor a c b x h g =
    ⊎_elim
    (λ (l : x < b).
    let d : x + (b - x) ≡ b = omega arith in
    let p : c * (x + (b - x)) ≤ suc c * x = rw d g in
    let q : c * (b - x) ≤ x = omega arith in
    let r : a * (b - x) ≤ c * (b - x) = mul-le-mul_right (b - x) h in
    let t : a * (x + (b - x)) ≤ suc a * x = omega arith in
    rw (← d) t)
    (λ (l : b ≤ x). omega (arith, mul-le-mul_left a l))
    (cases_lt x b)

shadow_sum : (a b z e f : ℤ) → a *ℤ (b *ℤ z +ℤ e) +ℤ b *ℤ (f -ℤ a *ℤ z) ≡ a *ℤ e +ℤ b *ℤ f
shadow_sum = by_diff_5 (λ a b z e f. a *ℤ (b *ℤ z +ℤ e) +ℤ b *ℤ (f -ℤ a *ℤ z) ≡ a *ℤ e +ℤ b *ℤ f) (λ a a' b b' c c' d d' e e'. simp ring_steps (same_diff _ _ _ _ (omega arith)))

-- where z meets both rows and no splinter of the lower row has it, the dark shadow holds
pub dark_without_splinter : (a c b x : ℕ) (z e f : ℤ) → a ≤ c → pos (suc b) *ℤ z +ℤ e ≡ pos x → (pos (suc a) *ℤ z) ≤ℤ f → c * b ≤ suc c * x
    → pos (a * b) ≤ℤ (pos (suc a) *ℤ e +ℤ pos (suc b) *ℤ f)
dark_without_splinter a c b x z e f h low high none =
    let y : pos 0 ≤ℤ (f -ℤ pos (suc a) *ℤ z) = omega (arith, ints) in
    let m = mul-le-mul_ℤ (suc b) (pos 0) (f -ℤ pos (suc a) *ℤ z) y in
    let s = rw low at (shadow_sum (pos (suc a)) (pos (suc b)) z e f) in
    rw (← s) (omega (arith, ints, m, smaller_factor a c b x h none))
