-- The steps of the count of common loops.
use Rattle.std.proofs.Common.{◌≡◌, ℕ, suc, ◌+◌, ◌<◌, ◌≤◌, List, [], ◌∷◌, length, drop, get_or, refl, ap, ◌∙◌, arith, ◌==◌, Bool, true, false, cond}
use Rattle.std.proofs.lemmas.List.{drop_more, drop_all}
use Rattle.std.proofs.lemmas.Bool.Decides.{nat_tests}
use Rattle.ac_syntax.specs.LoopNests.{common}

same_number : (l m : ℕ) → l ≡ m → (l == m) ≡ true
same_number l m e = grind (arith, nat_tests, e)

other_number : (l m : ℕ) → ¬ (l ≡ m) → (l == m) ≡ false
other_number l m h = grind (arith, nat_tests, h)

-- the first k loops are common
pub record Shared (a b : List ℕ) (k : ℕ) : Type 0 where
  pub count : common a b ≡ k + common (drop k a) (drop k b)
  pub left : k ≤ length a
  pub right : k ≤ length b

pub shared_start : (a b : List ℕ) → Shared a b 0
shared_start a b = record { count = omega arith; left = omega arith; right = omega arith }

pub shared_more : (a b : List ℕ) (k : ℕ) → Shared a b k → k < length a → k < length b → get_or a k 0 ≡ get_or b k 0 → Shared a b (k + 1)
shared_more a b k h l m e = record {
  count = h.count ∙ (omega (arith, step (get_or a k 0) (get_or b k 0) (drop (k + 1) a) (drop (k + 1) b) e, ap (λ x. common x (drop k b)) (drop_more a k 0 l), ap (λ y. common (get_or a k 0 ∷ drop (k + 1) a) y) (drop_more b k 0 m)));
  left = omega arith;
  right = omega arith;
}
  where
    step : (x y : ℕ) (xs ys : List ℕ) → x ≡ y → common (x ∷ xs) (y ∷ ys) ≡ suc (common xs ys)
    step x y xs ys e = rw (same_number x y e) refl

common_nil : (xs : List ℕ) → common xs [] ≡ 0
common_nil [] = refl
common_nil (x ∷ xs) = refl

pub shared_end_left : (a b : List ℕ) (k : ℕ) → Shared a b k → length a ≤ k → k ≡ common a b
shared_end_left a b k h l = let c = rw (drop_all k a l) at h.count in omega (arith, c)

pub shared_end_right : (a b : List ℕ) (k : ℕ) → Shared a b k → length b ≤ k → k ≡ common a b
shared_end_right a b k h l = let c = rw (drop_all k b l) at h.count in omega (arith, c, common_nil (drop k a))

pub shared_end_apart : (a b : List ℕ) (k : ℕ) → Shared a b k → k < length a → k < length b → ¬ (get_or a k 0 ≡ get_or b k 0) → k ≡ common a b
shared_end_apart a b k h l m n =
    omega (arith, h.count, apart (get_or a k 0) (get_or b k 0) (drop (k + 1) a) (drop (k + 1) b) n, ap (λ x. common x (drop k b)) (drop_more a k 0 l), ap (λ y. common (get_or a k 0 ∷ drop (k + 1) a) y) (drop_more b k 0 m))
  where
    apart : (x y : ℕ) (xs ys : List ℕ) → ¬ (x ≡ y) → common (x ∷ xs) (y ∷ ys) ≡ 0
    apart x y xs ys n = rw (other_number x y n) refl

pub ruleset common_steps = (shared_start, shared_more, shared_end_left, shared_end_right, shared_end_apart)

-- as many as each has
pub common_within : (ls ms : List ℕ) → (common ls ms ≤ length ls) × (common ls ms ≤ length ms)
common_within [] ms = (omega arith, omega arith)
common_within (l ∷ ls) [] = (omega arith, omega arith)
common_within (l ∷ ls) (m ∷ ms) = by (l == m) (common_within ls ms)
  where
    by : (b : Bool) → (common ls ms ≤ length ls) × (common ls ms ≤ length ms) → (cond b (suc (common ls ms)) 0 ≤ suc (length ls)) × (cond b (suc (common ls ms)) 0 ≤ suc (length ms))
    by true h = let a = h.0 in let b = h.1 in (omega arith, omega arith)
    by false h = (omega arith, omega arith)
