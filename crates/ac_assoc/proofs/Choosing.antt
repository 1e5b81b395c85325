-- Each choice of orders is that of an arrangement: its number has the choices as its digits.
use Rattle.std.proofs.Common.{◌≡◌, ◌⊎◌, inl, inr, ℕ, suc, ◌+◌, ◌*◌, ◌/◌, ◌%◌, ◌<◌, ◌≤◌, List, [], ◌∷◌, ◌++◌, length, reverse, Bool, true, false, cond, refl, sym, ap, ◌∙◌, subst, arith}
use Rattle.std.specs.Prelude.{◌&&◌, ◌==◌, nat_le}
use Rattle.std.specs.List.{AllByRecursion}
use Rattle.std.proofs.Math.Nat.{mul_assoc, mul_comm}
use Rattle.std.proofs.lemmas.Bool.Decides.{nat_tests}
use Rattle.std.proofs.lemmas.Nat.{mul-le, mod-mul-add, div-mul-add}
use Rattle.std.proofs.lemmas.List.{reverse-append}
use Rattle.ac_assoc_law.specs.ArrangedPairs.{factorial}
use Rattle.ac_assoc.specs.ChosenOrders.{chosen, is_right, number_at, product, read_from, ways}
use Rattle.ac_assoc.specs.ChosenArrangements.{AreOrders, ArrangementsAreAllChoices}
use Rattle.ac_assoc.specs.declared.types.Chain.{Chain}
use Rattle.ac_assoc.specs.declared.types.Chosen.{Chosen}

-- ---- the chains backwards

backwards : (c : Chain) (cs : List Chain) → reverse (c ∷ cs) ≡ reverse cs ++ c ∷ []
backwards c cs = reverse-append (c ∷ []) cs

one_way : (c : Chain) → is_right c.side ≡ false → ways c ≡ 1
one_way c h = ap (λ b. cond (b && (nat_le 3 (length c.operands) && nat_le (length c.operands) 6)) (factorial (length c.operands)) 1) h

product_joined : (xs ys : List Chain) → product (xs ++ ys) ≡ product xs * product ys
unfolding product
product_joined [] ys = omega arith
product_joined (x ∷ xs) ys = ap (λ n. ways x * n) (product_joined xs ys) ∙ sym (mul_assoc (ways x) (product xs) (product ys))

product_backwards : (cs : List Chain) → product (reverse cs) ≡ product cs
unfolding product
product_backwards [] = refl
product_backwards (c ∷ cs) =
    let one : ways c * 1 ≡ ways c = omega arith in
    ap product (backwards c cs) ∙ product_joined (reverse cs) (c ∷ []) ∙ ap (λ n. n * (ways c * 1)) (product_backwards cs)
    ∙ ap (λ n. product cs * n) one ∙ mul_comm (product cs) (ways c)

all_joined : (P : Chain → Type 0) (xs ys : List Chain) → AllByRecursion P xs → AllByRecursion P ys → AllByRecursion P (xs ++ ys)
all_joined P [] ys h g = g
all_joined P (x ∷ xs) ys h g = (h.0, all_joined P xs ys h.1 g)

all_backwards : (P : Chain → Type 0) (cs : List Chain) → AllByRecursion P cs → AllByRecursion P (reverse cs)
all_backwards P [] h = tt
all_backwards P (c ∷ cs) h = subst (AllByRecursion P) (sym (backwards c cs)) (all_joined P (reverse cs) (c ∷ []) (all_backwards P cs h.1) (h.0, tt))

abbrev Among : Chain → List Chain → Type 0
Among c [] = ⊥
Among c (d ∷ ds) = (d ≡ c) ⊎ Among c ds

among_right : (c : Chain) (xs ys : List Chain) → Among c ys → Among c (xs ++ ys)
among_right c [] ys h = h
among_right c (x ∷ xs) ys h = inr (among_right c xs ys h)

among_left : (c : Chain) (xs ys : List Chain) → Among c xs → Among c (xs ++ ys)
among_left c [] ys h = absurd h
among_left c (x ∷ xs) ys (inl e) = inl e
among_left c (x ∷ xs) ys (inr h) = inr (among_left c xs ys h)

among_backwards : (c : Chain) (cs : List Chain) → Among c cs → Among c (reverse cs)
among_backwards c [] h = absurd h
among_backwards c (d ∷ ds) (inl e) = subst (Among c) (sym (backwards d ds)) (among_right c (reverse ds) (d ∷ []) (inl e))
among_backwards c (d ∷ ds) (inr h) = subst (Among c) (sym (backwards d ds)) (among_left c (reverse ds) (d ∷ []) (among_backwards c ds h))

each_among : (P : Chain → Type 0) (cs : List Chain) → ((c : Chain) → Among c cs → P c) → AllByRecursion P cs
each_among P [] f = tt
each_among P (c ∷ cs) f = (f c (inl refl), each_among P cs (λ d h. f d (inr h)))

-- ---- the number of a choice

module _ (choice : ℕ → ℕ → ℕ) where
  abbrev picked : Chain → Chosen
  picked c = record { stmt = c.stmt; node = c.node; number = choice c.stmt c.node }

  abbrev picks : List Chain → List Chosen
  picks [] = []
  picks (c ∷ cs) = cond (is_right c.side) (picked c ∷ picks cs) (picks cs)

  abbrev HasNumber : List Chain → Type 0
  HasNumber cs = (number : ℕ) × (number < product cs) × (read_from cs number ≡ picks cs)

  larger : (m n w p : ℕ) → m < p → n < w → m * w + n < w * p
  larger m n w p l k =
      let a : suc m * w ≤ p * w = mul-le (suc m) w p w (omega arith) (omega arith) in
      let b : suc m * w ≡ m * w + w = omega arith in
      let c : w * p ≡ p * w = mul_comm w p in
      omega (arith, a, b, c)

  find : (cs : List Chain) → AreOrders choice cs → HasNumber cs
  unfolding product
  find [] h = (0, omega arith, refl)
  find (c ∷ cs) h = by (is_right c.side) refl (find cs h.1)
    where
      by : (b : Bool) → is_right c.side ≡ b → HasNumber cs
          → (number : ℕ) × (number < ways c * product cs)
          × (cond b (record { stmt = c.stmt; node = c.node; number = number % ways c } ∷ read_from cs (number / ways c)) (read_from cs number) ≡ cond b (picked c ∷ picks cs) (picks cs))
      by true e (m, l, r) =
          let below : choice c.stmt c.node < ways c = h.0 e in (
            m * ways c + choice c.stmt c.node,
            larger m (choice c.stmt c.node) (ways c) (product cs) l below,
            λ i. record { stmt = c.stmt; node = c.node; number = mod-mul-add m (ways c) (choice c.stmt c.node) below i } ∷ (ap (read_from cs) (div-mul-add m (ways c) (choice c.stmt c.node) below) ∙ r) i,
          )
      by false e (m, l, r) = let one : ways c ≡ 1 = one_way c e in (m, rw one (omega (arith, l)), r)

  both_true : (a b : Bool) → (a && b) ≡ true → (a ≡ true) × (b ≡ true)
  both_true true b h = (refl, h)
  both_true false b h = absurd cc

  same_place : (d c : Chain) → ((d.stmt == c.stmt) && (d.node == c.node)) ≡ true → choice d.stmt d.node ≡ choice c.stmt c.node
  same_place d c h =
      let k = both_true (d.stmt == c.stmt) (d.node == c.node) h in
      let s : d.stmt ≡ c.stmt = let t : (d.stmt == c.stmt) ≡ true = k.0 in grind (arith, nat_tests) in
      let n : d.node ≡ c.node = let t : (d.node == c.node) ≡ true = k.1 in grind (arith, nat_tests) in
      λ i. choice (s i) (n i)

  equal_self : (n : ℕ) → (n == n) ≡ true
  equal_self n = grind (arith, nat_tests)

  own_place : (c : Chain) → ((c.stmt == c.stmt) && (c.node == c.node)) ≡ true
  own_place c = rw (equal_self c.stmt, equal_self c.node) refl

  later : (d c : Chain) (ds : List Chain) → Among c (d ∷ ds) → ¬ (d ≡ c) → Among c ds
  later d c ds (inl e) not = absurd (not e)
  later d c ds (inr k) not = k

  other_place : (d c : Chain) → ((d.stmt == c.stmt) && (d.node == c.node)) ≡ false → ¬ (d ≡ c)
  other_place d c e is =
      let t : ((c.stmt == c.stmt) && (c.node == c.node)) ≡ false = subst (λ (x : Chain). ((x.stmt == c.stmt) && (x.node == c.node)) ≡ false) is e in
      let s = own_place c in cc

  other_side : (d c : Chain) → is_right d.side ≡ false → is_right c.side ≡ true → ¬ (d ≡ c)
  other_side d c e r is = let t : is_right c.side ≡ false = subst (λ (x : Chain). is_right x.side ≡ false) is e in cc

  looked_up : (cs : List Chain) (c : Chain) → Among c cs → is_right c.side ≡ true → number_at (picks cs) c.stmt c.node ≡ choice c.stmt c.node
  looked_up [] c h r = absurd h
  looked_up (d ∷ ds) c h r = by (is_right d.side) refl (λ k. looked_up ds c k r)
    where
      at : (b : Bool) → ((d.stmt == c.stmt) && (d.node == c.node)) ≡ b → (Among c ds → number_at (picks ds) c.stmt c.node ≡ choice c.stmt c.node)
          → cond b (choice d.stmt d.node) (number_at (picks ds) c.stmt c.node) ≡ choice c.stmt c.node
      at true e f = same_place d c e
      at false e f = f (later d c ds h (other_place d c e))

      by : (b : Bool) → is_right d.side ≡ b → (Among c ds → number_at (picks ds) c.stmt c.node ≡ choice c.stmt c.node)
          → number_at (cond b (picked d ∷ picks ds) (picks ds)) c.stmt c.node ≡ choice c.stmt c.node
      by true e f = at ((d.stmt == c.stmt) && (d.node == c.node)) refl f
      by false e f = f (later d c ds h (other_side d c e r))

pub all_choices : ArrangementsAreAllChoices
all_choices chains choice h =
    let found = find choice (reverse chains) (all_backwards (λ (c : Chain). is_right c.side ≡ true → choice c.stmt c.node < ways c) chains h) in (
      found.0,
      subst (λ (n : ℕ). found.0 < n) (product_backwards chains) found.1,
      each_among (λ (c : Chain). is_right c.side ≡ true → number_at (chosen chains found.0) c.stmt c.node ≡ choice c.stmt c.node) chains
          (λ c k r. ap (λ (os : List Chosen). number_at os c.stmt c.node) found.2 ∙ looked_up choice (reverse chains) c (among_backwards c chains k) r),
    )
