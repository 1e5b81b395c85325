-- The greatest common divisor of a list, number by number.
use Rattle.std.proofs.Common.{◌≡◌, ℕ, suc, zero, ◌+◌, ◌<◌, ◌≤◌, ℤ, pos, List, length, drop, get_or, arith, refl, unsigned_abs}
use Rattle.std.proofs.lemmas.Nat.Gcd.{IsGcd-from_zero, le_of_dvd}
use Rattle.std.proofs.lemmas.List.{drop_more, drop_all}
use Rattle.ac_base.proofs.Divisors.{gcd_is, IsGcd-gcd}
use Rattle.ac_base.specs.Gcd.{gcd, gcd_all}

-- the greatest common divisor of two numbers below n is below n
pub gcd_lt : (a b n : ℕ) → a < n → b < n → gcd a b < n
gcd_lt a zero n h k = rw (← (gcd_is a 0 a (IsGcd-from_zero a 0 refl))) h
gcd_lt a (suc b) n h k = let e = le_of_dvd (omega arith) (IsGcd-gcd a (suc b)).1 in omega arith

-- before number i, d is the greatest common divisor of those before it
pub record ContentHalfway (cs : List ℤ) (d : ℕ) (i : ℕ) : Type 0 where
  pub room : i ≤ length cs
  pub value : gcd_all d (drop i cs) ≡ gcd_all 0 cs

pub content_start : (cs : List ℤ) → ContentHalfway cs 0 0
content_start cs = record { room = omega arith; value = refl }

pub content_step : (cs : List ℤ) (d e : ℕ) (i : ℕ) → ContentHalfway cs d i → i < length cs → e ≡ gcd d (unsigned_abs (get_or cs i (pos 0))) → ContentHalfway cs e (i + 1)
content_step cs d e i h l is = rw is (record { room = omega arith; value = (rw (drop_more cs i (pos 0) l) at h.value) })

pub content_end : (cs : List ℤ) (d : ℕ) (i : ℕ) → ContentHalfway cs d i → length cs ≤ i → d ≡ gcd_all 0 cs
content_end cs d i h l = rw (drop_all i cs l) at h.value

pub ruleset content_steps = (content_start, content_step, content_end)
