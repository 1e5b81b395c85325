-- Coefficients of differences: their sums and opposites, and their sizes.
use Rattle.std.proofs.Common.{◌≡◌, ◌⊎◌, inl, inr, ℕ, zero, suc, ◌+◌, ◌≤◌, nat_eq, cond, Bool, true, false, ℤ, pos, negsuc, ◌+ℤ◌, ◌-ℤ◌, neg_ℤ, List, [], ◌∷◌, get_or, Option, Some, None, arith, refl, ap, ◌∙◌}
use Rattle.std.specs.Prelude.{unsigned_abs}
use Rattle.std.proofs.lemmas.Int.{ints}
use borrow.Author.Tests.{eqb-true}
use Rattle.ac_omega.specs.DifferenceRows.{one_in, IsDifference}

-- one column's numbers
abbrev pub IsUnit : ℤ → Type 0
IsUnit x = (x ≡ pos 1) ⊎ (x ≡ pos 0) ⊎ (x ≡ negsuc 0)

pub one-cases : (o : Option ℕ) (j : ℕ) → ((one_in o j ≡ pos 1) × (o ≡ Some j)) ⊎ (one_in o j ≡ pos 0)
one-cases None j = inr refl
one-cases (Some x) j = by (nat_eq x j) refl
  where
    by : (t : Bool) → nat_eq x j ≡ t → ((cond t (pos 1) (pos 0) ≡ pos 1) × (Some x ≡ Some j)) ⊎ (cond t (pos 1) (pos 0) ≡ pos 0)
    by true e = inl (refl, ap (λ (y : ℕ). Some y) (eqb-true x j e))
    by false e = inr refl

-- where the coefficient is 1 or -1
pub plus-is : (c : ℕ → ℤ) (z : ℕ) (d : IsDifference c) → c z ≡ pos 1 → d.plus ≡ Some z
plus-is c z d e = elim (one-cases d.plus z) [
  | inl a ↦ a.1
  | inr a ↦ absurd (elim (one-cases d.minus z) [ inl b ↦ omega (arith, ints, d.is z, e, a, b.0) | inr b ↦ omega (arith, ints, d.is z, e, a, b) ])
]

pub minus-is : (c : ℕ → ℤ) (z : ℕ) (d : IsDifference c) → c z ≡ negsuc 0 → d.minus ≡ Some z
minus-is c z d e = elim (one-cases d.minus z) [
  | inl a ↦ a.1
  | inr a ↦ absurd (elim (one-cases d.plus z) [ inl b ↦ omega (arith, ints, d.is z, e, a, b.0) | inr b ↦ omega (arith, ints, d.is z, e, a, b) ])
]

pub unit-at : (c : ℕ → ℤ) (d : IsDifference c) (j : ℕ) → IsUnit (c j)
unit-at c d j = elim (one-cases d.plus j) [
  | inl a ↦ elim (one-cases d.minus j) [ inl b ↦ inr (inl (omega (arith, ints, d.is j, a.0, b.0))) | inr b ↦ inl (omega (arith, ints, d.is j, a.0, b)) ]
  | inr a ↦ elim (one-cases d.minus j) [ inl b ↦ inr (inr (omega (arith, ints, d.is j, a, b.0))) | inr b ↦ inr (inl (omega (arith, ints, d.is j, a, b))) ]
]

added-at : (h c d m t s : ℤ) → h ≡ c +ℤ d → c ≡ m -ℤ t → d ≡ s -ℤ m → h ≡ s -ℤ t
added-at h c d m t s e f g = omega (arith, ints)

-- the sum of two differences in which a column goes
pub sum-difference : (c d h : ℕ → ℤ) (z : ℕ) → ((j : ℕ) → h j ≡ c j +ℤ d j) → c z ≡ pos 1 → d z ≡ negsuc 0 → IsDifference c → IsDifference d → IsDifference h
sum-difference c d h z same cz dz f g = record {
  plus = g.plus;
  minus = f.minus;
  is = λ j.
      let a = f.is j ∙ ap (λ (o : Option ℕ). one_in o j -ℤ one_in f.minus j) (plus-is c z f cz) in
      let b = g.is j ∙ ap (λ (o : Option ℕ). one_in g.plus j -ℤ one_in o j) (minus-is d z g dz) in
      added-at (h j) (c j) (d j) (one_in (Some z) j) (one_in f.minus j) (one_in g.plus j) (same j) a b;
}

turned-at : (h c s t : ℤ) → h ≡ neg_ℤ c → c ≡ s -ℤ t → h ≡ t -ℤ s
turned-at h c s t e f = omega (arith, ints)

pub turned-difference : (c h : ℕ → ℤ) → ((j : ℕ) → h j ≡ neg_ℤ (c j)) → IsDifference c → IsDifference h
turned-difference c h same f = record { plus = f.minus; minus = f.plus; is = λ j. turned-at (h j) (c j) (one_in f.plus j) (one_in f.minus j) (same j) (f.is j) }

pub same-difference : (c h : ℕ → ℤ) → ((j : ℕ) → h j ≡ c j) → IsDifference c → IsDifference h
same-difference c h same f = record { plus = f.plus; minus = f.minus; is = λ j. same j ∙ f.is j }

pub no-difference : (c : ℕ → ℤ) → ((j : ℕ) → c j ≡ pos 0) → IsDifference c
no-difference c zeros = record { plus = None; minus = None; is = λ j. zeros j }

-- the sum of absolute values
abbrev pub weight : List ℤ → ℕ
weight [] = 0
weight (c ∷ cs) = unsigned_abs c + weight cs

ones : Option ℕ → ℕ
ones None = 0
ones (Some x) = 1

-- the column, in the columns from 1 on
before : Option ℕ → Option ℕ
before None = None
before (Some zero) = None
before (Some (suc x)) = Some x

tests-before : (x j : ℕ) → nat_eq (suc x) (suc j) ≡ nat_eq x j
tests-before x j = grind arith

test-first : (j : ℕ) → nat_eq 0 (suc j) ≡ false
test-first j = grind arith

test-later : (x : ℕ) → nat_eq (suc x) 0 ≡ false
test-later x = grind arith

one-before : (o : Option ℕ) (j : ℕ) → one_in o (suc j) ≡ one_in (before o) j
unfolding before
one-before None j = refl
one-before (Some zero) j = rw (test-first j) refl
one-before (Some (suc x)) j = rw (tests-before x j) refl

ones-before : (o : Option ℕ) → unsigned_abs (one_in o 0) + ones (before o) ≡ ones o
unfolding before ones
ones-before None = refl
ones-before (Some zero) = refl
ones-before (Some (suc x)) = rw (test-later x) refl

ones-few : (o : Option ℕ) → ones o ≤ 1
unfolding ones
ones-few None = omega arith
ones-few (Some x) = omega arith

abs-difference : (c s t : ℤ) → c ≡ s -ℤ t → unsigned_abs c ≤ unsigned_abs s + unsigned_abs t
abs-difference c s t e = omega (arith, ints)

weight-by : (cs : List ℤ) (p q : Option ℕ) → ((j : ℕ) → get_or cs j (pos 0) ≡ one_in p j -ℤ one_in q j) → weight cs ≤ ones p + ones q
weight-by [] p q h = omega arith
weight-by (c ∷ cs) p q h =
    let rest : (j : ℕ) → get_or cs j (pos 0) ≡ one_in (before p) j -ℤ one_in (before q) j = λ j. rw (← (one-before p j), ← (one-before q j)) (h (suc j)) in
    omega (arith, weight-by cs (before p) (before q) rest, abs-difference c (one_in p 0) (one_in q 0) (h 0), ones-before p, ones-before q)

pub weight-two : (cs : List ℤ) → IsDifference (λ j. get_or cs j (pos 0)) → weight cs ≤ 2
weight-two cs d = omega (arith, weight-by cs d.plus d.minus d.is, ones-few d.plus, ones-few d.minus)
