-- Sums of forms column by column: one number after the other.
use Rattle.std.proofs.Common.{◌≡◌, ℕ, zero, suc, ◌+◌, ◌<◌, List, [], ◌∷◌, ◌++◌, map, length, refl, ap, Bool, true, false, cond, ◌==◌, ℤ, pos, ◌+ℤ◌, ◌*ℤ◌, arith}
use Rattle.std.specs.List.{range_with_len}
use Rattle.std.proofs.lemmas.Int.{ints}
use Rattle.std.proofs.lemmas.Bool.Decides.{nat_tests}
use Rattle.ac_parse_exprs.specs.AffineForms.{plus_times, times, indicator, zeros, all_small, is_small}
use Rattle.ac_parse_exprs.proofs.Absent.{both_true}

zero_times : (c : ℤ) → c *ℤ pos 0 ≡ pos 0
zero_times c = omega (arith, ints)

once : (c : ℤ) → c *ℤ pos 1 ≡ c
once c = omega (arith, ints)

mark_off : (k a : ℕ) (b : Bool) → (a == k) ≡ b → k < a → cond b (pos 1) (pos 0) ≡ pos 0
mark_off k a true e h = absurd (grind (arith, nat_tests))
mark_off k a false e h = refl

mark_below : (k a : ℕ) (b : Bool) → (a == k) ≡ b → a < k → cond b (pos 1) (pos 0) ≡ pos 0
mark_below k a true e h = absurd (grind (arith, nat_tests))
mark_below k a false e h = refl

mark_on : (k a : ℕ) (b : Bool) → (a == k) ≡ b → k ≡ a → cond b (pos 1) (pos 0) ≡ pos 1
mark_on k a true e h = refl
mark_on k a false e h = absurd (grind (arith, nat_tests))

past : (c : ℤ) (k a n : ℕ) → k < a → times c (map (indicator k) (range_with_len a n)) ≡ zeros n
past c k a zero h = refl
past c k a (suc n) h = rw (mark_off k a (a == k) refl h, past c k (a + 1) n (omega (arith, h)), zero_times c) refl

-- a multiple of a mark: one number between zeros
marked : (c : ℤ) (k a before behind n : ℕ) → k ≡ a + before → n ≡ before + suc behind → times c (map (indicator k) (range_with_len a n)) ≡ zeros before ++ c ∷ zeros behind
marked c k a zero behind zero e l = absurd (omega (arith, l))
marked c k a zero behind (suc n) e l =
    let o : n ≡ behind = omega (arith, l) in
    rw (mark_on k a (a == k) refl (omega (arith, e)), past c k (a + 1) n (omega (arith, e)), once c, o) refl
marked c k a (suc before) behind zero e l = absurd (omega (arith, l))
marked c k a (suc before) behind (suc n) e l =
    rw (mark_below k a (a == k) refl (omega (arith, e)), marked c k (a + 1) before behind n (omega (arith, e)) (omega (arith, l)), zero_times c) refl

pub marked_at : (c : ℤ) (before behind n : ℕ) → n ≡ before + suc behind → times c (map (indicator before) (range_with_len 0 n)) ≡ zeros before ++ c ∷ zeros behind
marked_at c before behind n l = marked c before 0 before behind n (omega arith) l

pub zeros_of : (c : ℤ) (n : ℕ) → times c (zeros n) ≡ zeros n
zeros_of c zero = refl
zeros_of c (suc n) = rw (zeros_of c n, zero_times c) refl

same_sum : (d : ℤ) → d +ℤ pos 1 *ℤ pos 0 ≡ d
same_sum d = omega (arith, ints)

first_sum : (c : ℤ) → pos 0 +ℤ pos 1 *ℤ c ≡ c
first_sum c = omega (arith, ints)

pub plus_zeros : (xs : List ℤ) (n : ℕ) → plus_times (pos 1) xs (zeros n) ≡ xs
plus_zeros [] n = refl
plus_zeros (x ∷ xs) zero = ap (λ rest. x ∷ rest) (plus_zeros xs zero)
plus_zeros (x ∷ xs) (suc n) = rw (plus_zeros xs n, same_sum x) refl

pub plus_from_zeros : (ys : List ℤ) (n : ℕ) → length ys ≡ n → plus_times (pos 1) (zeros n) ys ≡ ys
plus_from_zeros [] zero h = refl
plus_from_zeros [] (suc n) h = absurd (omega (arith, h))
plus_from_zeros (y ∷ ys) zero h = absurd (omega (arith, h))
plus_from_zeros (y ∷ ys) (suc n) h = rw (plus_from_zeros ys n (omega (arith, h)), first_sum y) refl

-- one number more
pub plus_marked : (done : List ℤ) (c : ℤ) (behind : ℕ) → plus_times (pos 1) (done ++ zeros (suc behind)) (zeros (length done) ++ c ∷ zeros behind) ≡ done ++ c ∷ zeros behind
plus_marked [] c behind = rw (plus_zeros (zeros behind) behind, first_sum c) refl
plus_marked (d ∷ done) c behind = rw (plus_marked done c behind, same_sum d) refl

pub first_marked : (c : ℤ) → pos 0 +ℤ pos 1 *ℤ c ≡ c
first_marked c = first_sum c

pub same_constant : (c : ℤ) → c +ℤ pos 1 *ℤ pos 0 ≡ c
same_constant c = same_sum c

pub zeros_small : (n : ℕ) → all_small (zeros n) ≡ true
zeros_small zero = refl
zeros_small (suc n) = zeros_small n

pub small_append : (xs ys : List ℤ) → all_small xs ≡ true → all_small ys ≡ true → all_small (xs ++ ys) ≡ true
small_append [] ys h k = k
small_append (x ∷ xs) ys h k = let b = both_true (is_small x) (all_small xs) h in rw (b.0, small_append xs ys b.1 k) refl
