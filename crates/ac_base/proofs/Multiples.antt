-- Multiples of an integer.
use Rattle.std.proofs.Common.{◌≡◌, ℕ, suc, ◌+◌, ◌*◌, ◌<◌, ◌≤◌, ℤ, pos, negsuc, ◌+ℤ◌, ◌-ℤ◌, ◌*ℤ◌, neg_ℤ, ◌≤ℤ◌, arith, unsigned_abs, ◌-◌, ⊎_elim, mul-le-mul_left, mul-le-mul_right}
use Rattle.std.specs.Int.{◌∣◌}
use Rattle.std.proofs.lemmas.Int.{ints, unsigned_abs-mul, by_lt_z}
use Rattle.std.proofs.Math.Logic.{∥∥₁_elim, ∥∥₁_map}
use Rattle.ac_base.specs.Multiple.{IsMultiple}
use Rattle.ac_base.proofs.Ring.{ring_steps, same_diff, by_diff_3, by_diff_5}
use Rattle.ac_base.proofs.Products.{mul-le-mul_ℤ, mul-neg_ℤ}
use Rattle.std.proofs.lemmas.Bool.{cases_lt}
use Rattle.ac_base.proofs.Dot.{gather}

pub multiple_from : (m z q : ℤ) → z ≡ m *ℤ q → IsMultiple m z
multiple_from m z q e = ∣ (unsigned_abs q, rw e (unsigned_abs-mul m q)) ∣₁

quotient : (m z : ℤ) (k : ℕ) → unsigned_abs z ≡ unsigned_abs m * k → (q : ℤ) × (z ≡ m *ℤ q)
quotient (pos m) (pos z) k e = (pos k, omega (arith, ints))
quotient (pos m) (negsuc z) k e = (neg_ℤ (pos k), rw mul-neg_ℤ (omega (arith, ints)))
quotient (negsuc m) (pos z) k e = (neg_ℤ (pos k), rw mul-neg_ℤ (omega (arith, ints)))
quotient (negsuc m) (negsuc z) k e = (pos k, omega (arith, ints))

pub multiple_is : (m z : ℤ) → IsMultiple m z → ∥ ((q : ℤ) × (z ≡ m *ℤ q)) ∥₁
multiple_is m z h = ∥∥₁_map h (λ s. quotient m z s.0 s.1)

two_quotients : (m k q l r : ℤ) → k *ℤ (m *ℤ q) +ℤ l *ℤ (m *ℤ r) ≡ m *ℤ (k *ℤ q +ℤ l *ℤ r)
two_quotients = by_diff_5 (λ m k q l r. k *ℤ (m *ℤ q) +ℤ l *ℤ (m *ℤ r) ≡ m *ℤ (k *ℤ q +ℤ l *ℤ r)) (λ a a' b b' c c' d d' e e'. simp ring_steps (same_diff _ _ _ _ (omega arith)))

-- a combination of multiples is a multiple
pub multiple_add : (m k a l b : ℤ) → IsMultiple m a → IsMultiple m b → IsMultiple m (k *ℤ a +ℤ l *ℤ b)
multiple_add m k a l b h g =
    ∥∥₁_elim (multiple_is m a h) squash₁ (λ s. ∥∥₁_elim (multiple_is m b g) squash₁ (λ t.
    multiple_from m (k *ℤ a +ℤ l *ℤ b) (k *ℤ s.0 +ℤ l *ℤ t.0) (rw (s.1, t.1) (two_quotients m k s.0 l t.0))))
