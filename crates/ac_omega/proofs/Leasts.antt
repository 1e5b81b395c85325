-- The column that a fold finds comes before all others.
use Rattle.std.proofs.Common.{◌≡◌, ℕ, Bool, true, false, cond, not, ◌&&◌, ◌||◌, ◌==◌, nat_lt, ℤ, List, [], ◌∷◌, Option, Some, None, arith, refl, subst}
use Rattle.std.proofs.lemmas.Bool.{eqb-true}
use Rattle.std.proofs.lemmas.Bool.Decides.{nat_tests}
use Rattle.std.proofs.lemmas.Int.{ints}
use Rattle.ac_omega.specs.ColumnChoice.{less, precedes, precedes_by_two, better, least_from, least_by}
use Rattle.ac_omega.specs.Projection.{is_among}

-- by two keys and places
goes-first : Option ℤ → ℕ → Option ℤ → ℕ → Bool
goes-first a i b j = less a b || (not (less b a) && nat_lt i j)

chain : (a : Option ℤ) (i : ℕ) (b : Option ℤ) (j : ℕ) (c : Option ℤ) (k : ℕ) → goes-first a i b j ≡ true → goes-first b j c k ≡ true → goes-first a i c k ≡ true
unfolding goes-first
chain None i None j None k p q = grind (arith, nat_tests)
chain None i None j (Some c) k p q = absurd cc
chain None i (Some b) j c k p q = absurd cc
chain (Some a) i None j None k p q = refl
chain (Some a) i None j (Some c) k p q = absurd cc
chain (Some a) i (Some b) j None k p q = refl
chain (Some a) i (Some b) j (Some c) k p q = grind (arith, ints, nat_tests)

chained : (rank : ℕ → Option ℤ) (x y z : ℕ) → precedes rank x y ≡ true → precedes rank y z ≡ true → precedes rank x z ≡ true
unfolding goes-first
chained rank x y z p q = chain (rank x) x (rank y) y (rank z) z p q

not-before-itself : (a : Option ℤ) (i : ℕ) → goes-first a i a i ≡ false
unfolding goes-first
not-before-itself None i = grind (arith, nat_tests)
not-before-itself (Some a) i = grind (arith, ints, nat_tests)

itself-not : (rank : ℕ → Option ℤ) (z : ℕ) → precedes rank z z ≡ false
unfolding goes-first
itself-not rank z = not-before-itself (rank z) z

-- by two keys
two-chained : (first second : ℕ → Option ℤ) (x y z : ℕ) → precedes_by_two first second x y ≡ true → precedes_by_two first second y z ≡ true → precedes_by_two first second x z ≡ true
two-chained first second x y z p q = both (first x) (first y) (first z) (precedes second x y) (precedes second y z) (precedes second x z) (chained second x y z) p q
  where
    both : (a b c : Option ℤ) (t u v : Bool) → (t ≡ true → u ≡ true → v ≡ true) → (less a b || (not (less b a) && t)) ≡ true → (less b c || (not (less c b) && u)) ≡ true → (less a c || (not (less c a) && v)) ≡ true
    both None None None t u v go p q = go p q
    both None None (Some c) t u v go p q = absurd cc
    both None (Some b) c t u v go p q = absurd cc
    both (Some a) None None t u v go p q = refl
    both (Some a) None (Some c) t u v go p q = absurd cc
    both (Some a) (Some b) None t u v go p q = refl
    both (Some a) (Some b) (Some c) true true v go p q = let e : v ≡ true = go refl refl in grind (arith, ints, e)
    both (Some a) (Some b) (Some c) true false v go p q = grind (arith, ints)
    both (Some a) (Some b) (Some c) false u v go p q = grind (arith, ints)

two-itself : (first second : ℕ → Option ℤ) (z : ℕ) → precedes_by_two first second z z ≡ false
two-itself first second z = by (first z) (precedes second z z) (itself-not second z)
  where
    by : (a : Option ℤ) (t : Bool) → t ≡ false → (less a a || (not (less a a) && t)) ≡ false
    by None t e = e
    by (Some x) t e = grind (arith, ints, e)

-- an order in which some columns come before others
pub record IsOrder (before : ℕ → ℕ → Bool) : Type 0 where
  pub chain_up : (x y z : ℕ) → before x y ≡ true → before y z ≡ true → before x z ≡ true
  pub itself : (z : ℕ) → before z z ≡ false

-- what does not come before a column does not come before one that is better
still-not : (before : ℕ → ℕ → Bool) (law : IsOrder before) (w x b : ℕ) → before x b ≡ true → before w b ≡ false → before w x ≡ false
still-not before law w x b p q = by (before w x) refl
  where
    by : (t : Bool) → before w x ≡ t → t ≡ false
    by true e = let c = law.chain_up w x b e p in cc
    by false e = refl

keeps-not : (before : ℕ → ℕ → Bool) (law : IsOrder before) (b : ℕ) (zs : List ℕ) (z w : ℕ) → least_from before (Some b) zs ≡ Some z → before w b ≡ false → before w z ≡ false
keeps-not before law b [] z w e n = let s : b ≡ z = cc in subst (λ (v : ℕ). before w v ≡ false) s n
keeps-not before law b (x ∷ xs) z w e n = by (before x b) refl (λ f m. keeps-not before law x xs z w f m) (λ f m. keeps-not before law b xs z w f m) e
  where
    by : (t : Bool) → before x b ≡ t → (least_from before (Some x) xs ≡ Some z → before w x ≡ false → before w z ≡ false) → (least_from before (Some b) xs ≡ Some z → before w b ≡ false → before w z ≡ false)
        → least_from before (Some (cond t x b)) xs ≡ Some z → before w z ≡ false
    by true is f g e = f e (still-not before law w x b is n)
    by false is f g e = g e n

-- a column that the fold meets does not come before the one that it finds
met-not : (before : ℕ → ℕ → Bool) (law : IsOrder before) (o : Option ℕ) (x : ℕ) (xs : List ℕ) (z : ℕ) → least_from before (better before o x) xs ≡ Some z → before x z ≡ false
met-not before law None x xs z e = keeps-not before law x xs z x e (law.itself x)
met-not before law (Some b) x xs z e = by (before x b) refl e
  where
    by : (t : Bool) → before x b ≡ t → least_from before (Some (cond t x b)) xs ≡ Some z → before x z ≡ false
    by true is e = keeps-not before law x xs z x e (law.itself x)
    by false is e = keeps-not before law b xs z x e is

pub least-first : (before : ℕ → ℕ → Bool) (law : IsOrder before) (o : Option ℕ) (zs : List ℕ) (z y : ℕ) → least_from before o zs ≡ Some z → is_among y zs ≡ true → before y z ≡ false
least-first before law o [] z y e a = absurd cc
least-first before law o (x ∷ xs) z y e a = by (y == x) refl (least-first before law (better before o x) xs z y e) a
  where
    by : (t : Bool) → (y == x) ≡ t → (is_among y xs ≡ true → before y z ≡ false) → (t || is_among y xs) ≡ true → before y z ≡ false
    by true is f a = let s = eqb-true y x is in rw s (met-not before law o x xs z e)
    by false is f a = f a

pub least-one : (rank : ℕ → Option ℤ) (zs : List ℕ) (z y : ℕ) → least_by (precedes rank) zs ≡ Some z → is_among y zs ≡ true → precedes rank y z ≡ false
least-one rank zs z y e a = least-first (precedes rank) (record { chain_up = chained rank; itself = itself-not rank }) None zs z y e a

pub least-of-two : (first second : ℕ → Option ℤ) (zs : List ℕ) (z y : ℕ) → least_by (precedes_by_two first second) zs ≡ Some z → is_among y zs ≡ true → precedes_by_two first second y z ≡ false
least-of-two first second zs z y e a = least-first (precedes_by_two first second) (record { chain_up = two-chained first second; itself = two-itself first second }) None zs z y e a
