-- The laws of ℤ that std lacks: z is read as `up z - down z`, and a product is multiplied out.
use Rattle.std.proofs.Common.{◌≡◌, ℕ, ◌+◌, ◌*◌, ◌<◌, ◌≤◌, ℤ, pos, negsuc, ◌+ℤ◌, ◌*ℤ◌, neg_ℤ, ◌≤ℤ◌, arith, mul-le-mul_left}
use Rattle.std.proofs.lemmas.Int.{ints}
use borrow.Author.Differences.{up, down, le_out, at_most_in}
use Rattle.std.proofs.Math.Nat.{le_of_mul-le-mul_left}
use Rattle.ac_base.proofs.Ring.{same_diff, ring_steps, by_diff_2, by_diff_3}

pub add_assoc_ℤ : (a b c : ℤ) → (a +ℤ b) +ℤ c ≡ a +ℤ (b +ℤ c)
add_assoc_ℤ a b c = omega (arith, ints)

pub mul_comm_ℤ : (a b : ℤ) → a *ℤ b ≡ b *ℤ a
mul_comm_ℤ a b = omega (arith, ints)

pub mul-add_ℤ : (a b c : ℤ) → a *ℤ (b +ℤ c) ≡ a *ℤ b +ℤ a *ℤ c
mul-add_ℤ = by_diff_3 (λ a b c. a *ℤ (b +ℤ c) ≡ a *ℤ b +ℤ a *ℤ c) (λ a a' b b' c c'. simp ring_steps (same_diff _ _ _ _ (omega arith)))

pub mul_assoc_ℤ : (a b c : ℤ) → (a *ℤ b) *ℤ c ≡ a *ℤ (b *ℤ c)
mul_assoc_ℤ = by_diff_3 (λ a b c. (a *ℤ b) *ℤ c ≡ a *ℤ (b *ℤ c)) (λ a a' b b' c c'. simp ring_steps (same_diff _ _ _ _ (omega arith)))

pub add-mul_ℤ : (a b c : ℤ) → (a +ℤ b) *ℤ c ≡ a *ℤ c +ℤ b *ℤ c
add-mul_ℤ = by_diff_3 (λ a b c. (a +ℤ b) *ℤ c ≡ a *ℤ c +ℤ b *ℤ c) (λ a a' b b' c c'. simp ring_steps (same_diff _ _ _ _ (omega arith)))

pub mul-neg_ℤ : (a b : ℤ) → a *ℤ neg_ℤ b ≡ neg_ℤ (a *ℤ b)
mul-neg_ℤ = by_diff_2 (λ a b. a *ℤ neg_ℤ b ≡ neg_ℤ (a *ℤ b)) (λ a a' b b'. simp ring_steps (same_diff _ _ _ _ (omega arith)))

pub neg-mul_ℤ : (a b : ℤ) → neg_ℤ a *ℤ b ≡ neg_ℤ (a *ℤ b)
neg-mul_ℤ = by_diff_2 (λ a b. neg_ℤ a *ℤ b ≡ neg_ℤ (a *ℤ b)) (λ a a' b b'. simp ring_steps (same_diff _ _ _ _ (omega arith)))

-- a factor that is not negative keeps the order
pub mul-le-mul_ℤ : (k : ℕ) (a b : ℤ) → a ≤ℤ b → (pos k *ℤ a) ≤ℤ (pos k *ℤ b)
mul-le-mul_ℤ k a b l = omega (arith, ints, mul-le-mul_left k (le_out a b l))

pub nonneg-mul_ℤ : (a b : ℤ) → pos 0 ≤ℤ a → pos 0 ≤ℤ b → pos 0 ≤ℤ (a *ℤ b)
nonneg-mul_ℤ (pos a) (pos b) h k = omega (arith, ints)
nonneg-mul_ℤ (pos a) (negsuc b) h k = omega (arith, ints)
nonneg-mul_ℤ (negsuc a) b h k = omega (arith, ints)

pub le_of_mul-le_ℤ : (k : ℕ) (a b : ℤ) → 0 < k → (pos k *ℤ a) ≤ℤ (pos k *ℤ b) → a ≤ℤ b
le_of_mul-le_ℤ k a b h l =
    let p : k * (up a + down b) ≤ k * (up b + down a) = omega (arith, ints) in
    at_most_in a b (le_of_mul-le-mul_left p h)
