-- The least common multiple is one, and grows.
use Rattle.std.proofs.Common.{◌≡◌, ℕ, zero, suc, ◌+◌, ◌*◌, ◌/◌, ◌%◌, ◌<◌, ◌≤◌, ◌^◌, ◌==◌, true, false, cond, Option, Some, None, arith, refl, ap}
use Rattle.std.specs.Prelude.{SomeIff, IfSome}
use Rattle.std.specs.Int.{◌∣◌}
use Rattle.std.proofs.lemmas.Nat.{div-add-mod'}
use Rattle.std.proofs.lemmas.Nat.Gcd.{le_of_dvd}
use Rattle.std.proofs.Math.Nat.{dvd-mul_left, mul-dvd-mul_left, mul-dvd-mul_right, dvd_of_mul-dvd-mul_right, dvd-add_iff_right, dvd-mul_right_of_dvd, pos_of_dvd_of_pos, div-mul_cancel, mul_comm}
use Rattle.ac_base.specs.Gcd.{gcd_within, gcd}
use Rattle.ac_base.proofs.Divisors.{IsGcd-gcd}
use Rattle.ac_omega.specs.CommonMultiple.{IsLcm}
use Rattle.ac_omega_certify.specs.Alternatives.{lcm}

rest_scaled : (n a b : ℕ) → (n * b) * (a / b) + n * (a % b) ≡ n * a
rest_scaled n a b = omega (arith, ap (λ x. n * x) (div-add-mod' a b))

-- what divides n a and n b divides n times their greatest common divisor
within-scaled : (k n d a b : ℕ) → d ∣ n * a → d ∣ n * b → d ∣ n * gcd_within k a b
unfolding gcd_within
within-scaled zero n d a b h g = h
within-scaled (suc k) n d a b h g =
    elim (b == 0) as (λ t. d ∣ n * cond t a (gcd_within k b (a % b))) [
      | true ↦ h
      | false ↦ within-scaled k n d b (a % b) g ((dvd-add_iff_right d (dvd-mul_right_of_dvd d g (a / b))).1 (rw (rest_scaled n a b) h))
    ]

gcd-scaled : (n d a b : ℕ) → d ∣ n * a → d ∣ n * b → d ∣ n * gcd a b
unfolding gcd
gcd-scaled n d a b h g = within-scaled b n d a b h g

pub gcd-positive : (a b : ℕ) → 0 < a → 0 < gcd a b
gcd-positive a b h = pos_of_dvd_of_pos (IsGcd-gcd a b).0 h

-- times the greatest common divisor it is the product
lcm-gcd : (a b : ℕ) → lcm a b * gcd a b ≡ a * b
unfolding lcm
lcm-gcd a b = omega (arith, ap (λ x. x * b) (div-mul_cancel (gcd a b) (IsGcd-gcd a b).0))

lcm_left : (a b : ℕ) → 0 < a → a ∣ lcm a b
lcm_left a b h = dvd_of_mul-dvd-mul_right a (gcd-positive a b h) (rw (lcm-gcd a b) (mul-dvd-mul_left (gcd a b) a (IsGcd-gcd a b).1))

lcm_right : (a b : ℕ) → b ∣ lcm a b
unfolding lcm
lcm_right a b = dvd-mul_left b (a / gcd a b)

lcm_least : (a b n : ℕ) → 0 < a → a ∣ n → b ∣ n → lcm a b ∣ n
lcm_least a b n p h g =
    dvd_of_mul-dvd-mul_right (lcm a b) (gcd-positive a b p)
    (rw (lcm-gcd a b) (gcd-scaled n (a * b) a b (rw (mul_comm n a) (mul-dvd-mul_left b a g)) (mul-dvd-mul_right a h b)))

pub IsLcm-lcm : (a b : ℕ) → 0 < a → IsLcm a b (lcm a b)
IsLcm-lcm a b h = (lcm_left a b h, lcm_right a b, λ n. lcm_least a b n h)

pub lcm-positive : (a b : ℕ) → 0 < a → 0 < b → 0 < lcm a b
lcm-positive a b h g = by (lcm a b) refl
  where
    by : (n : ℕ) → lcm a b ≡ n → 0 < n
    by zero e = absurd (omega (arith, lcm-gcd a b, ap (λ x. x * gcd a b) e, product a b h g))
      where
        product : (a b : ℕ) → 0 < a → 0 < b → 0 < a * b
        product zero b h g = absurd (omega arith)
        product (suc a) zero h g = absurd (omega arith)
        product (suc a) (suc b) h g = omega arith
    by (suc n) e = omega arith

pub lcm-grows : (a b : ℕ) → 0 < a → 0 < b → a ≤ lcm a b
lcm-grows a b h g = le_of_dvd (lcm-positive a b h g) (lcm_left a b h)

-- what the code's answer says
pub lcm_made : (a b g : ℕ) (o : Option ℕ) → g ≡ gcd a b → SomeIff o ((a / g) * b < 2 ^ 128) ((a / g) * b) → SomeIff o (lcm a b < 2 ^ 128) (lcm a b)
unfolding lcm
lcm_made a b g o e h = rw (← e) h

pub lcm_is : (a b g : ℕ) (o : Option ℕ) → 0 < a → g ≡ gcd a b → SomeIff o ((a / g) * b < 2 ^ 128) ((a / g) * b) → IfSome o (λ m. IsLcm a b m)
lcm_is a b g None p e h = tt
lcm_is a b g (Some m) p e h = rw (lcm_made a b g (Some m) e h).1 (IsLcm-lcm a b p)
