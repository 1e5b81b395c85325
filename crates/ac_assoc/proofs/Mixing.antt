-- Arrangements by their numbers.
use Rattle.std.proofs.Common.{◌≡◌, ℕ, zero, suc, ◌+◌, ◌*◌, ◌/◌, ◌%◌, ◌<◌, ◌≤◌, List, [], ◌∷◌, ◌++◌, length, drop, take, reverse, get_or, min, Bool, true, false, cond, refl, sym, ap, ◌∙◌, append_assoc, append-nil, arith}
use Rattle.std.specs.Prelude.{◌&&◌, nat_le}
use Rattle.std.proofs.Math.Nat.{mul_assoc}
use Rattle.std.proofs.lemmas.Bool.Decides.{nat_tests}
use Rattle.std.proofs.lemmas.Nat.{mul-le}
use Rattle.std.proofs.lemmas.List.{drop_more, drop_all, take_all, take_more, reverse-append}
use Rattle.ac_assoc_law.specs.ArrangedPairs.{factorial}
use Rattle.ac_assoc.specs.ChosenOrders.{is_right, ways, product, arrangement_count, read_from, chosen}
use Rattle.ac_assoc.specs.declared.types.Chain.{Chain}
use Rattle.ac_assoc.specs.declared.types.Chosen.{Chosen}

factorial_some : (n : ℕ) → 0 < factorial n
unfolding factorial
factorial_some zero = omega arith
factorial_some (suc n) = let h : 1 * 1 ≤ suc n * factorial n = mul-le 1 1 (suc n) (factorial n) (omega arith) (factorial_some n) in omega arith

pub three : factorial 3 ≡ 6
unfolding factorial
three = refl

pub four : factorial 4 ≡ 24
unfolding factorial
four = refl

pub five : factorial 5 ≡ 120
unfolding factorial
five = refl

pub six : factorial 6 ≡ 720
unfolding factorial
six = refl

pub ruleset ways_known = (three, four, five, six)

-- how many
ways_some : (c : Chain) → 0 < ways c
ways_some c = by (is_right c.side && (nat_le 3 (length c.operands) && nat_le (length c.operands) 6)) (factorial_some (length c.operands))
  where
    by : (b : Bool) → 0 < factorial (length c.operands) → 0 < cond b (factorial (length c.operands)) 1
    by true h = h
    by false h = omega arith

product_some : (cs : List Chain) → 0 < product cs
unfolding product
product_some [] = omega arith
product_some (c ∷ cs) = let h : 1 * 1 ≤ ways c * product cs = mul-le 1 1 (ways c) (product cs) (ways_some c) (product_some cs) in omega arith

min_times : (m p : ℕ) → 0 < p → min (min m 1025 * p) 1025 ≡ min (m * p) 1025
min_times m p h = by (nat_le m 1025) refl
  where
    by : (b : Bool) → nat_le m 1025 ≡ b → min (min m 1025 * p) 1025 ≡ min (m * p) 1025
    by true e = let l : m ≤ 1025 = grind (arith, nat_tests) in let f : min m 1025 ≡ m = omega arith in rw f refl
    by false e =
        let l : 1025 ≤ m = grind (arith, nat_tests) in
        let f : min m 1025 ≡ 1025 = omega arith in
        let g : 1025 * 1 ≤ m * p = mul-le 1025 1 m p l h in
        rw f (omega (arith, g))

pub count_start : (cs : List Chain) → min (product cs) 1025 ≡ min (1 * product cs) 1025
count_start cs = omega arith

pub count_step : (cs : List Chain) (i count new w : ℕ) (c : Chain) → min (product cs) 1025 ≡ min (count * product (drop i cs)) 1025 → i < length cs → c ≡ get_or cs i c → w ≡ ways c → new ≡ min (count * w) 1025
    → min (product cs) 1025 ≡ min (new * product (drop (i + 1) cs)) 1025
unfolding product
count_step cs i count new w c h l e k n =
    h ∙ ap (λ r. min (count * product r) 1025) (drop_more cs i c l)
    ∙ ap (λ (x : Chain). min (count * (ways x * product (drop (i + 1) cs))) 1025) (sym e)
    ∙ ap (λ r. min r 1025) (sym (mul_assoc count (ways c) (product (drop (i + 1) cs))))
    ∙ ap (λ r. min (count * r * product (drop (i + 1) cs)) 1025) (sym k)
    ∙ sym (min_times (count * w) (product (drop (i + 1) cs)) (product_some (drop (i + 1) cs)))
    ∙ ap (λ r. min (r * product (drop (i + 1) cs)) 1025) (sym n)

pub count_end : (cs : List Chain) (i count : ℕ) → min (product cs) 1025 ≡ min (count * product (drop i cs)) 1025 → length cs ≤ i → count ≤ 1025 → count ≡ arrangement_count cs
unfolding product
count_end cs i count h l f =
    let e : min (count * product (drop i cs)) 1025 ≡ count = ap (λ r. min (count * product r) 1025) (drop_all i cs l) ∙ omega arith in sym (h ∙ e)

-- mixed radix
pub read_start : (cs : List Chain) (number : ℕ) (made : List Chosen) → made ≡ [] → read_from (reverse cs) number ≡ made ++ read_from (reverse (take (length cs) cs)) number
read_start cs number made e =
    ap (λ r. read_from (reverse r) number) (sym (take_all (length cs) cs (omega arith))) ∙ ap (λ x. x ++ read_from (reverse (take (length cs) cs)) number) (sym e)

last : (cs : List Chain) (at : ℕ) (c : Chain) → at < length cs → c ≡ get_or cs at c → reverse (take (at + 1) cs) ≡ c ∷ reverse (take at cs)
last cs at c l e = ap reverse (take_more cs at c l) ∙ reverse-append (take at cs) (get_or cs at c ∷ []) ∙ ap (λ (x : Chain). x ∷ reverse (take at cs)) (sym e)

pub read_right : (cs : List Chain) (number before at rest radix : ℕ) (made new : List Chosen) (c : Chain) → read_from (reverse cs) number ≡ made ++ read_from (reverse (take before cs)) rest → before ≡ at + 1 → at < length cs → c ≡ get_or cs at c
    → is_right c.side ≡ true → radix ≡ ways c → new ≡ made ++ record { stmt = c.stmt; node = c.node; number = rest % radix } ∷ [] → read_from (reverse cs) number ≡ new ++ read_from (reverse (take at cs)) (rest / radix)
read_right cs number before at rest radix made new c h b l e r k n =
    h ∙ ap (λ i. made ++ read_from (reverse (take i cs)) rest) b ∙ ap (λ x. made ++ read_from x rest) (last cs at c l e)
    ∙ ap (λ t. made ++ cond t (record { stmt = c.stmt; node = c.node; number = rest % ways c } ∷ read_from (reverse (take at cs)) (rest / ways c)) (read_from (reverse (take at cs)) rest)) r
    ∙ ap (λ w. made ++ record { stmt = c.stmt; node = c.node; number = rest % w } ∷ read_from (reverse (take at cs)) (rest / w)) (sym k)
    ∙ sym (append_assoc made (record { stmt = c.stmt; node = c.node; number = rest % radix } ∷ []) (read_from (reverse (take at cs)) (rest / radix)))
    ∙ ap (λ x. x ++ read_from (reverse (take at cs)) (rest / radix)) (sym n)

pub read_left : (cs : List Chain) (number before at rest : ℕ) (made : List Chosen) (c : Chain) → read_from (reverse cs) number ≡ made ++ read_from (reverse (take before cs)) rest → before ≡ at + 1 → at < length cs → c ≡ get_or cs at c
    → is_right c.side ≡ false → read_from (reverse cs) number ≡ made ++ read_from (reverse (take at cs)) rest
read_left cs number before at rest made c h b l e r =
    h ∙ ap (λ i. made ++ read_from (reverse (take i cs)) rest) b ∙ ap (λ x. made ++ read_from x rest) (last cs at c l e)
    ∙ ap (λ t. made ++ cond t (record { stmt = c.stmt; node = c.node; number = rest % ways c } ∷ read_from (reverse (take at cs)) (rest / ways c)) (read_from (reverse (take at cs)) rest)) r

pub read_end : (cs : List Chain) (number at rest : ℕ) (made : List Chosen) → read_from (reverse cs) number ≡ made ++ read_from (reverse (take at cs)) rest → at ≡ 0 → made ≡ chosen cs number
read_end cs number at rest made h e = sym (h ∙ ap (λ i. made ++ read_from (reverse (take i cs)) rest) e ∙ append-nil made)
