-- The bound on the turns of a loop is reached only where its condition has failed.
use Rattle.std.proofs.Common.{◌≡◌, ℕ, zero, suc, ◌<◌, ◌≤◌, Bool, true, false, cond, refl, ap, ◌∙◌, arith, ◌⊎◌, inl, inr}
use Rattle.ac_syntax.specs.Turns.{count_while}

pub count_le : (n : ℕ) (p : ℕ → Bool) → count_while n p ≤ n
count_le zero p = omega arith
count_le (suc n) p = elim (p 0) as (λ b. cond b (suc (count_while n (λ k. p (suc k)))) 0 ≤ suc n) [ true ↦ (let h = count_le n (λ k. p (suc k)) in omega arith) | false ↦ omega arith ]

-- each turn before the count passes
pub count_before : (n : ℕ) (p : ℕ → Bool) (k : ℕ) → k < count_while n p → p k ≡ true
count_before zero p k h = absurd (omega arith)
count_before (suc n) p zero h = before_first (p 0) (count_while n (λ k. p (suc k))) h
  where
    before_first : (b : Bool) (m : ℕ) → 0 < cond b (suc m) 0 → b ≡ true
    before_first true m h = refl
    before_first false m h = absurd (omega arith)
count_before (suc n) p (suc k) h = count_before n (λ k. p (suc k)) k (tail (p 0) (count_while n (λ k. p (suc k))) h)
  where
    tail : (b : Bool) (m : ℕ) → suc k < cond b (suc m) 0 → k < m
    tail true m h = omega arith
    tail false m h = absurd (omega arith)

-- where the count stays below n, the test has failed there
pub count_at : (n : ℕ) (p : ℕ → Bool) → count_while n p < n → p (count_while n p) ≡ false
count_at zero p h = absurd (omega arith)
count_at (suc n) p h = at (p 0) refl (count_while n (λ k. p (suc k))) (count_at n (λ k. p (suc k))) h
  where
    at : (b : Bool) → p 0 ≡ b → (m : ℕ) → (m < n → p (suc m) ≡ false) → cond b (suc m) 0 < suc n → p (cond b (suc m) 0) ≡ false
    at true e m f h = f (omega arith)
    at false e m f h = e

-- if the test fails somewhere below n, the count is where it first fails
pub count_ends : (n : ℕ) (p : ℕ → Bool) (j : ℕ) → j < n → p j ≡ false → (count_while n p ≤ j) × (p (count_while n p) ≡ false)
count_ends n p j h f = by (nat_le_total (count_while n p) j)
  where
    not_both : (b : Bool) → b ≡ true → b ≡ false → ⊥
    not_both b e g = cc

    nat_le_total : (a b : ℕ) → (a ≤ b) ⊎ (b < a)
    nat_le_total a b = grind arith

    by : (count_while n p ≤ j) ⊎ (j < count_while n p) → (count_while n p ≤ j) × (p (count_while n p) ≡ false)
    by (inl le) = (le, count_at n p (omega arith))
    by (inr lt) = absurd (not_both (p j) (count_before n p j lt) f)

-- the same where it fails at n itself
pub count_ends_by : (n : ℕ) (p : ℕ → Bool) (j : ℕ) → j ≤ n → p j ≡ false → p (count_while n p) ≡ false
count_ends_by n p j h f = by (cases (count_while n p) j)
  where
    not_both : (b : Bool) → b ≡ true → b ≡ false → ⊥
    not_both b e g = cc

    cases : (a b : ℕ) → (a < b) ⊎ ((a ≡ b) ⊎ (b < a))
    cases a b = grind arith

    by : (count_while n p < j) ⊎ ((count_while n p ≡ j) ⊎ (j < count_while n p)) → p (count_while n p) ≡ false
    by (inl lt) = count_at n p (omega arith)
    by (inr (inl e)) = ap p e ∙ f
    by (inr (inr lt)) = absurd (not_both (p j) (count_before n p j lt) f)
