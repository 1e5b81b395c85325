-- The greatest common divisor divides, and is the greatest number that does.
use Rattle.std.proofs.Common.{IsTrue, nat_eq, ◌↔◌, ◌≡◌, ℕ, zero, suc, ◌%◌, ◌<◌, ◌≤◌, ◌==◌, Bool, true, false, cond, ℤ, List, [], ◌∷◌, unsigned_abs, arith, refl}
use Rattle.std.specs.Int.{IsGcd, ◌∣◌}
use Rattle.std.proofs.lemmas.Nat.Gcd.{IsGcd-from_zero, IsGcd-from_mod, same_from_IsGcd, dvd_trans, dvd_refl, dvd-zero, dvd_of_mod-eq-zero, mod-eq-zero_of_dvd}
use Rattle.ac_base.specs.Multiple.{divides}
use Rattle.ac_base.specs.Gcd.{gcd_within, gcd, gcd_all, DividesEach}
use Rattle.std.proofs.Math.Nat.{eq-zero_of_zero-dvd}
use borrow.Author.Tests.{eqb-true, eqb-false, eq-eqb}

within_step : (n a b : ℕ) (t : Bool) → (b == 0) ≡ t → (0 < b → IsGcd b (a % b) (gcd_within n b (a % b))) → IsGcd a b (cond t a (gcd_within n b (a % b)))
within_step n a b true e h = IsGcd-from_zero a b (eqb-true b 0 e)
within_step n a b false e h = IsGcd-from_mod a b (gcd_within n b (a % b)) (h (omega (arith, eqb-false b 0 e)))

pub IsGcd-gcd_within : (n a b : ℕ) → b ≤ n → IsGcd a b (gcd_within n a b)
unfolding gcd_within
IsGcd-gcd_within zero a b h = IsGcd-from_zero a b (omega arith)
IsGcd-gcd_within (suc n) a b h = within_step n a b (b == 0) refl (λ p. IsGcd-gcd_within n b (a % b) (omega arith))

pub IsGcd-gcd : (a b : ℕ) → IsGcd a b (gcd a b)
unfolding gcd
IsGcd-gcd a b = IsGcd-gcd_within b a b (omega arith)

pub gcd_is : (a b g : ℕ) → IsGcd a b g → g ≡ gcd a b
gcd_is a b g h = same_from_IsGcd a b g (gcd a b) h (IsGcd-gcd a b)

-- the common divisor divides each
pub gcd_all_divides : (d : ℕ) (cs : List ℤ) → (gcd_all d cs ∣ d) × DividesEach (gcd_all d cs) cs
gcd_all_divides d [] = (dvd_refl d, tt)
gcd_all_divides d (c ∷ cs) =
    let g = IsGcd-gcd d (unsigned_abs c) in
    let r = gcd_all_divides (gcd d (unsigned_abs c)) cs in
    (dvd_trans _ r.0 g.0, (dvd_trans _ r.0 g.1, r.1))

-- and each number that divides d and each coefficient divides it
pub divides_gcd_all : (k d : ℕ) (cs : List ℤ) → k ∣ d → DividesEach k cs → k ∣ gcd_all d cs
divides_gcd_all k d [] h all = h
divides_gcd_all k d (c ∷ cs) h all = divides_gcd_all k (gcd d (unsigned_abs c)) cs ((IsGcd-gcd d (unsigned_abs c)).2 k h all.0) all.1

pub ruleset euclid = (IsGcd-from_mod, IsGcd-from_zero, gcd_is)

-- the answer of a test of divisibility
pub multiple_by_rest : (m z : ℤ) (a b : ℕ) → a ≡ unsigned_abs z → b ≡ unsigned_abs m → IsTrue (nat_eq (a % b) 0) ↔ (unsigned_abs m ∣ unsigned_abs z)
multiple_by_rest m z a b e f = rw (e, f) ((λ t. dvd_of_mod-eq-zero _ (eqb-true _ _ t)), (λ d. eq-eqb _ _ (mod-eq-zero_of_dvd _ d)))

pub multiple_of_zero : (m z : ℤ) (a b : ℕ) → a ≡ unsigned_abs z → b ≡ unsigned_abs m → b ≡ 0 → IsTrue (nat_eq a 0) ↔ (unsigned_abs m ∣ unsigned_abs z)
multiple_of_zero m z a b e f g =
    rw (← e, ← f, g) ((λ t. rw (eqb-true _ _ t) (dvd-zero 0)), (λ d. eq-eqb _ _ (eq-zero_of_zero-dvd d)))

-- the test of divisibility
pub divides-true : (d : ℕ) (z : ℤ) → divides d z ≡ true → d ∣ unsigned_abs z
divides-true d z e = dvd_of_mod-eq-zero _ (eqb-true _ _ e)

pub true-divides : (d : ℕ) (z : ℤ) → d ∣ unsigned_abs z → divides d z ≡ true
true-divides d z h = eq-eqb _ _ (mod-eq-zero_of_dvd _ h)

pub divides-false : (d : ℕ) (z : ℤ) → divides d z ≡ false → ¬ (d ∣ unsigned_abs z)
divides-false d z e h = eqb-false _ _ e (mod-eq-zero_of_dvd _ h)

pub false-divides : (d : ℕ) (z : ℤ) → ¬ (d ∣ unsigned_abs z) → divides d z ≡ false
false-divides d z h = by (divides d z) refl
  where
    by : (b : Bool) → divides d z ≡ b → divides d z ≡ false
    by true e = absurd (h (divides-true d z e))
    by false e = e
