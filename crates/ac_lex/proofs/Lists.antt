-- Fronts of lists, and the longest front that passes a test.
use Rattle.std.specs.Prelude.{Bool, true, false, cond}
use Rattle.std.specs.List.{prefix_len, AllPass}
use Rattle.std.proofs.Common.{◌≡◌, ℕ, suc, ◌+◌, ◌≤◌, List, [], ◌∷◌, ◌++◌, length, take, drop, refl, sym, subst, arith}
use Rattle.std.proofs.lemmas.List.{take-append-drop}
use Rattle.std.proofs.lemmas.List.Folds.{length-prefix_len}
use Rattle.std.proofs.lemmas.List.Elements.{All-head, All-tail, All-cons, All-nil}

-- the shorter of two fronts is a front of the longer
pub front_of : (a b x y : List ℕ) → a ++ x ≡ b ++ y → length a ≤ length b → (m : List ℕ) × (b ≡ a ++ m)
front_of [] b x y e fits = (b, refl)
front_of (c ∷ a) [] x y e fits = absurd (omega arith)
front_of (c ∷ a) (d ∷ b) x y e fits =
    let heads : c ≡ d = cc in let tails : a ++ x ≡ b ++ y = cc in
    let more = front_of a b x y tails (omega arith) in
    (more.0, cc (heads, more.1))

-- fronts of one length are the same, and so is what follows
pub same_front : (a b x y : List ℕ) → length a ≡ length b → a ++ x ≡ b ++ y → (a ≡ b) × (x ≡ y)
same_front [] [] x y l e = (refl, e)
same_front [] (c ∷ b) x y l e = absurd (omega arith)
same_front (c ∷ a) [] x y l e = absurd (omega arith)
same_front (c ∷ a) (d ∷ b) x y l e =
    let heads : c ≡ d = cc in let tails : a ++ x ≡ b ++ y = cc in
    let more = same_front a b x y (omega arith) tails in (cc (more.0), more.1)

pub take_drop : (n : ℕ) (xs : List ℕ) → xs ≡ take n xs ++ drop n xs
take_drop n xs = sym (take-append-drop n xs)

module _ (p : ℕ → Bool) where
  -- a front that passes is no longer than the longest
  pub prefix_at_least : (xs ys : List ℕ) → AllPass p xs → length xs ≤ prefix_len p (xs ++ ys)
  prefix_at_least [] ys all = omega arith
  prefix_at_least (x ∷ xs) ys all =
      let head : p x ≡ true = All-head (λ b. p b ≡ true) x xs all in
      let more : length xs ≤ prefix_len p (xs ++ ys) = prefix_at_least xs ys (All-tail (λ b. p b ≡ true) x xs all) in
      subst (λ t. suc (length xs) ≤ cond t (1 + prefix_len p (xs ++ ys)) 0) (sym head) (omega arith)

  -- a front that passes, and then nothing or an element that fails, is the longest
  pub prefix_exact : (xs ys : List ℕ) → AllPass p xs → prefix_len p ys ≡ 0 → prefix_len p (xs ++ ys) ≡ length xs
  prefix_exact [] ys all stop = stop
  prefix_exact (x ∷ xs) ys all stop =
      let head : p x ≡ true = All-head (λ b. p b ≡ true) x xs all in
      let more : prefix_len p (xs ++ ys) ≡ length xs = prefix_exact xs ys (All-tail (λ b. p b ≡ true) x xs all) stop in
      subst (λ t. cond t (1 + prefix_len p (xs ++ ys)) 0 ≡ suc (length xs)) (sym head) (omega arith)

  pub prefix_passes : (xs : List ℕ) → AllPass p (take (prefix_len p xs) xs)
  prefix_passes [] = All-nil (λ b. p b ≡ true)
  prefix_passes (x ∷ xs) = by_test (p x) refl (prefix_passes xs)
    where
      by_test : (t : Bool) → p x ≡ t → AllPass p (take (prefix_len p xs) xs) → AllPass p (take (cond t (1 + prefix_len p xs) 0) (x ∷ xs))
      by_test true is more = let n = prefix_len p xs in let e : suc n ≡ 1 + n = omega arith in subst (λ n. AllPass p (take n (x ∷ xs))) e (All-cons (λ b. p b ≡ true) x (take (prefix_len p xs) xs) is more)
      by_test false is more = All-nil (λ b. p b ≡ true)

  pub prefix_fits : (xs : List ℕ) → prefix_len p xs ≤ length xs
  prefix_fits [] = omega arith
  prefix_fits (x ∷ xs) = by_test (p x) (prefix_fits xs)
    where
      by_test : (t : Bool) → prefix_len p xs ≤ length xs → cond t (1 + prefix_len p xs) 0 ≤ suc (length xs)
      by_test true more = omega arith
      by_test false more = omega arith

  pub length_take_prefix : (xs : List ℕ) → length (take (prefix_len p xs) xs) ≡ prefix_len p xs
  length_take_prefix xs = length-prefix_len p xs
