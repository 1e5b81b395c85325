-- When a point meets a residue class: where two remainders are the same.
use Rattle.std.proofs.Common.{◌≡◌, ◌↔◌, ℕ, ◌<◌, ℤ, pos, neg_ℤ, ◌+ℤ◌, ◌-ℤ◌, ◌*ℤ◌, ◌≤ℤ◌, refl, arith, Bool}
use Rattle.std.specs.Prelude.{IsTrue}
use Rattle.std.specs.Int.{int_div_euclid, int_rem_euclid}
use Rattle.std.proofs.lemmas.Int.{ints}
use Rattle.ac_base.specs.Multiple.{IsMultiple}
use Rattle.ac_base.proofs.Bits.{again_128}
use Rattle.ac_base.proofs.Floor.{positive_is}
use Rattle.ac_base.proofs.Multiples.{multiple_from, multiple_add}
use Rattle.ac_base.proofs.Products.{mul-add_ℤ, mul-neg_ℤ}
use Rattle.ac_base.proofs.Residues.{split_mod}

parts : (g n m q r s t : ℤ) → g ≡ m *ℤ q +ℤ r → n ≡ m *ℤ s +ℤ t → r -ℤ t ≡ pos 1 *ℤ (g -ℤ n) +ℤ pos 1 *ℤ (m *ℤ (s -ℤ q))
parts g n m q r s t e f =
    let d : m *ℤ (s -ℤ q) ≡ m *ℤ s +ℤ m *ℤ neg_ℤ q = mul-add_ℤ m s (neg_ℤ q) in
    omega (arith, ints, e, f, d, mul-neg_ℤ m q)

whole : (g n m q r s t : ℤ) → g ≡ m *ℤ q +ℤ r → n ≡ m *ℤ s +ℤ t → g -ℤ n ≡ pos 1 *ℤ (r -ℤ t) +ℤ pos 1 *ℤ (m *ℤ (q -ℤ s))
whole g n m q r s t e f =
    let d : m *ℤ (q -ℤ s) ≡ m *ℤ q +ℤ m *ℤ neg_ℤ s = mul-add_ℤ m q (neg_ℤ s) in
    omega (arith, ints, e, f, d, mul-neg_ℤ m s)

-- a modulus divides a difference where it divides that of the remainders
residues_multiple : (g n : ℤ) (k : ℕ) → 0 < k → IsMultiple (pos k) (int_rem_euclid g (pos k) -ℤ int_rem_euclid n (pos k)) ↔ IsMultiple (pos k) (g -ℤ n)
residues_multiple g n k h =
    let q = int_div_euclid g (pos k) in
    let s = int_div_euclid n (pos k) in
    let a = split_mod g k h in
    let b = split_mod n k h in (
      (λ d. rw (whole g n (pos k) (int_div_euclid g (pos k)) (int_rem_euclid g (pos k)) (int_div_euclid n (pos k)) (int_rem_euclid n (pos k)) a b)
          (multiple_add (pos k) (pos 1) (int_rem_euclid g (pos k) -ℤ int_rem_euclid n (pos k)) (pos 1) (pos k *ℤ (q -ℤ s)) d (multiple_from (pos k) (pos k *ℤ (q -ℤ s)) (q -ℤ s) refl))),
      (λ d. rw (parts g n (pos k) (int_div_euclid g (pos k)) (int_rem_euclid g (pos k)) (int_div_euclid n (pos k)) (int_rem_euclid n (pos k)) a b)
          (multiple_add (pos k) (pos 1) (g -ℤ n) (pos 1) (pos k *ℤ (s -ℤ q)) d (multiple_from (pos k) (pos k *ℤ (s -ℤ q)) (s -ℤ q) refl))),
    )

pub residue_is : (g c m r o t : ℤ) (b : Bool) → pos 1 ≤ℤ m → r ≡ int_rem_euclid g m → o ≡ neg_ℤ c → t ≡ int_rem_euclid o m → IsTrue b ↔ IsMultiple m (r -ℤ t) → IsTrue b ↔ IsMultiple m (g +ℤ c)
residue_is g c m r o t b h e f k i =
    let p = positive_is m h in
    let n : g -ℤ o ≡ g +ℤ c = rw f (omega (arith, ints)) in
    let j : IsMultiple m (r -ℤ t) ↔ IsMultiple m (g -ℤ o) = rw (e, k, p.2) (residues_multiple g o p.0 p.1) in
    rw (← n) ((λ x. j.0 (i.0 x)), (λ x. i.1 (j.1 x)))

pub ruleset meet_steps = again_128
