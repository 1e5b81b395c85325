-- The greatest common divisor of a number and a list, number by number.
use Rattle.std.proofs.Common.{◌≡◌, ℕ, ◌+◌, ◌<◌, ◌≤◌, ℤ, pos, ◌≤ℤ◌, List, [], ◌∷◌, ◌++◌, length, drop, get_or, refl, arith, unsigned_abs}
use Rattle.std.proofs.lemmas.Int.{ints}
use Rattle.std.proofs.lemmas.List.{drop_more, drop_all}
use Rattle.ac_base.proofs.Bits.{again_128}
use Rattle.ac_base.specs.Gcd.{content}
use Rattle.ac_base.specs.Gcd.{gcd, gcd_all}

pub record CommonHalfway (n : ℕ) (cs : List ℤ) (d : ℕ) (i : ℕ) : Type 0 where
  pub room : i ≤ length cs
  pub value : gcd_all d (drop i cs) ≡ gcd_all n cs

pub common_start : (n : ℕ) (cs : List ℤ) → CommonHalfway n cs n 0
common_start n cs = record { room = omega arith; value = refl }

pub common_step : (n : ℕ) (cs : List ℤ) (d e : ℕ) (i : ℕ) → CommonHalfway n cs d i → i < length cs → e ≡ gcd d (unsigned_abs (get_or cs i (pos 0))) → CommonHalfway n cs e (i + 1)
common_step n cs d e i h l is = rw is (record { room = omega arith; value = (rw (drop_more cs i (pos 0) l) at h.value) })

pub common_end : (n : ℕ) (cs : List ℤ) (d : ℕ) (i : ℕ) → CommonHalfway n cs d i → length cs ≤ i → d ≡ gcd_all n cs
common_end n cs d i h l = rw (drop_all i cs l) at h.value

pub ruleset common_steps = (common_start, common_step, common_end)

pub gcd_all-append : (d : ℕ) (a b : List ℤ) → gcd_all d (a ++ b) ≡ gcd_all (gcd_all d a) b
gcd_all-append d [] b = refl
gcd_all-append d (x ∷ a) b = gcd_all-append (gcd d (unsigned_abs x)) a b

pub content-append : (a b : List ℤ) → content (a ++ b) ≡ gcd_all (content a) b
content-append a b = gcd_all-append 0 a b

pub content_positive_ℤ : (xs : List ℤ) (d : ℤ) → 0 < content xs → d ≡ pos (content xs) → pos 1 ≤ℤ d
content_positive_ℤ xs d h e = rw e (omega (arith, ints, h))

pub ruleset divisor_steps = (content-append, again_128)

pub ruleset lowered_steps = (content_positive_ℤ, again_128)
