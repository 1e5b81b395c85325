-- Levels that are tried one after another.
use Rattle.std.proofs.Common.{◌≡◌, ◌≤◌, ◌<◌, ◌+◌, ℕ, List, Bool, true, false, refl, subst, arith}
use Rattle.std.specs.Prelude.{nat_lt}
use Rattle.std.proofs.lemmas.Bool.Decides.{nat_tests}

lt_true : (m n : ℕ) → nat_lt m n ≡ true → m < n
lt_true m n h = grind (arith, nat_tests)

lt_false : (m n : ℕ) → nat_lt m n ≡ false → n ≤ m
lt_false m n h = grind (arith, nat_tests)

pub one_more : (n : ℕ) (P : ℕ → Type 0) → ((k : ℕ) → 1 ≤ k → k < n → P k) → P n → (k : ℕ) → 1 ≤ k → k < n + 1 → P k
one_more n P h p k low l = by (nat_lt k n) refl
  where
    by : (b : Bool) → nat_lt k n ≡ b → P k
    by true e = h k low (lt_true k n e)
    by false e = subst P (let least : n ≤ k = lt_false k n e in let same : n ≡ k = omega (arith, least, l) in same) p
