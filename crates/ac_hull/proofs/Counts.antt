-- There are fewer equalities behind a further row.
use Rattle.std.proofs.Common.{◌≡◌, ◌==◌, inl, inr, ℕ, zero, suc, ◌+◌, ◌<◌, ◌≤◌, ℤ, pos, List, [], ◌∷◌, ◌++◌, length, Bool, true, false, cond, if◌then◌else◌, refl, arith, length-append}
use Rattle.std.proofs.lemmas.Bool.{eqb-true, eqb-false, eq-eqb}
use Rattle.ac_forms.specs.Affine.{Affine}
use Rattle.ac_widen.specs.Combinations.{Each, InHull}
use Rattle.ac_hull.specs.FractionFreeElimination.{entry, lead, column_of, minus, next_line}
use Rattle.ac_hull.specs.Equalities.{equality_of, normal_equality, equalities_below, is_free}
use Rattle.ac_hull.proofs.FreeColumns.{IsFree}
use Rattle.ac_hull.specs.Hulls.{HullOf, IsGrown, Falls, equalities_of}
use Rattle.ac_hull.specs.HullInternals.Keeping.{IsHull}
use Rattle.ac_hull.specs.declared.line.Line.{Line}
use Rattle.ac_hull.proofs.Entries.{lead_or}
use Rattle.ac_hull.proofs.Frees.{free_true}
use Rattle.ac_hull.proofs.Hulls.{lines_snoc}
use Rattle.ac_hull.proofs.Membership.{next}
use Rattle.ac_hull.proofs.Reading.{hull_is_zero}

one_more : (b : Bool) (xs : List Affine) (x : Affine) → length (if b then xs ++ x ∷ [] else xs) ≡ (if b then length xs + 1 else length xs)
one_more true xs x = length-append xs (x ∷ [])
one_more false xs x = refl

pub below_le : (columns : ℕ) (ls : List Line) (f : List ℤ) (n : ℕ) → length (equalities_below columns ls f n) ≤ n
below_le columns ls f zero = omega arith
below_le columns ls f (suc n) = at_most (is_free ls n) (equalities_below columns ls f n) (below_le columns ls f n)
  where
    at_most : (b : Bool) (xs : List Affine) → length xs ≤ n → length (if b then xs ++ normal_equality (equality_of columns ls f n) ∷ [] else xs) ≤ suc n
    at_most true xs h = rw (length-append xs (normal_equality (equality_of columns ls f n) ∷ [])) (omega arith)
    at_most false xs h = omega arith

-- a column that is free behind a further row was free before, and is not that row's
free_front : (ls : List Line) (l : Line) (z : ℕ) (b : Bool) → is_free ls z ≡ b → is_free (ls ++ l ∷ []) z ≡ true → b ≡ true
free_front ls l z true e h = refl
free_front ls l z false e h = let g = not_free ls l z e in absurd cc
  where
    not_free : (ls : List Line) (l : Line) (z : ℕ) → is_free ls z ≡ false → is_free (ls ++ l ∷ []) z ≡ false
    not_free [] l z e = absurd cc
    not_free (k ∷ ls) l z e = by_test (column_of k == z) refl e (not_free ls l z)
      where
        by_test : (b : Bool) → (column_of k == z) ≡ b → cond b false (is_free ls z) ≡ false → (is_free ls z ≡ false → is_free (ls ++ l ∷ []) z ≡ false) → cond b false (is_free (ls ++ l ∷ []) z) ≡ false
        by_test true f e r = refl
        by_test false f e r = r e

own_not_free : (ls : List Line) (l : Line) → is_free (ls ++ l ∷ []) (column_of l) ≡ false
own_not_free [] l = let b : (column_of l == column_of l) ≡ true = eq-eqb (column_of l) (column_of l) refl in rw b refl
own_not_free (k ∷ ls) l = by_test (column_of k == column_of l) (own_not_free ls l)
  where
    by_test : (b : Bool) → is_free (ls ++ l ∷ []) (column_of l) ≡ false → cond b false (is_free (ls ++ l ∷ []) (column_of l)) ≡ false
    by_test true r = refl
    by_test false r = r

count_step : (a b : Bool) (xs ys : List Affine) (x y : Affine) → (a ≡ true → b ≡ true) → length xs ≤ length ys → length (if a then xs ++ x ∷ [] else xs) ≤ length (if b then ys ++ y ∷ [] else ys)
count_step true true xs ys x y h l = rw (length-append xs (x ∷ []), length-append ys (y ∷ [])) (omega (arith, l))
count_step true false xs ys x y h l = let e = h refl in absurd cc
count_step false true xs ys x y h l = rw (length-append ys (y ∷ [])) (omega (arith, l))
count_step false false xs ys x y h l = l

count_less : (a b : Bool) (xs ys : List Affine) (x y : Affine) → (a ≡ true → b ≡ true) → length xs < length ys → length (if a then xs ++ x ∷ [] else xs) < length (if b then ys ++ y ∷ [] else ys)
count_less true true xs ys x y h l = rw (length-append xs (x ∷ []), length-append ys (y ∷ [])) (omega (arith, l))
count_less true false xs ys x y h l = let e = h refl in absurd cc
count_less false true xs ys x y h l = rw (length-append ys (y ∷ [])) (omega (arith, l))
count_less false false xs ys x y h l = l

count_here : (a b : Bool) (xs ys : List Affine) (x y : Affine) → a ≡ false → b ≡ true → length xs ≤ length ys → length (if a then xs ++ x ∷ [] else xs) < length (if b then ys ++ y ∷ [] else ys)
count_here true b xs ys x y e f l = absurd cc
count_here false true xs ys x y e f l = rw (length-append ys (y ∷ [])) (omega (arith, l))
count_here false false xs ys x y e f l = absurd cc

module _ (columns : ℕ) (ls : List Line) (l : Line) (f : List ℤ) where
  below_grow : (n : ℕ) → length (equalities_below columns (ls ++ l ∷ []) f n) ≤ length (equalities_below columns ls f n)
  below_grow zero = omega arith
  below_grow (suc n) =
      count_step (is_free (ls ++ l ∷ []) n) (is_free ls n) (equalities_below columns (ls ++ l ∷ []) f n) (equalities_below columns ls f n) _ _ (free_front ls l n (is_free ls n) refl) (below_grow n)

  falls_at : (n : ℕ) (b : Bool) → (n == column_of l) ≡ b → is_free ls (column_of l) ≡ true → column_of l < suc n
      → (column_of l < n → length (equalities_below columns (ls ++ l ∷ []) f n) < length (equalities_below columns ls f n))
      → length (equalities_below columns (ls ++ l ∷ []) f (suc n)) < length (equalities_below columns ls f (suc n))
  falls_at n true e free h rest =
      let i : n ≡ column_of l = eqb-true n (column_of l) e in
      count_here (is_free (ls ++ l ∷ []) n) (is_free ls n) (equalities_below columns (ls ++ l ∷ []) f n) (equalities_below columns ls f n) _ _ (rw i (own_not_free ls l)) (rw i free) (below_grow n)
  falls_at n false e free h rest =
      count_less (is_free (ls ++ l ∷ []) n) (is_free ls n) (equalities_below columns (ls ++ l ∷ []) f n) (equalities_below columns ls f n) _ _ (free_front ls l n (is_free ls n) refl) (rest (omega (arith, eqb-false n (column_of l) e)))

  pub below_falls : (n : ℕ) → column_of l < n → is_free ls (column_of l) ≡ true → length (equalities_below columns (ls ++ l ∷ []) f n) < length (equalities_below columns ls f n)
  below_falls zero h free = absurd (omega arith)
  below_falls (suc n) h free = falls_at n (n == column_of l) refl free h (λ m. below_falls n m free)

lead_free : (ls : List Line) (x : List ℤ) → ¬ (entry (lead x) x ≡ pos 0) → Each (λ o. entry (column_of o) x ≡ pos 0) ls → IsFree ls (lead x)
lead_free [] x n z = tt
lead_free (o ∷ ls) x n z = ((λ e. n (rw e at z.0)), lead_free ls x n z.1)

-- a point outside the hull leaves fewer equalities
pub grown_falls : (columns : ℕ) (g p : List ℤ) (ps : List (List ℤ)) (ls : List Line) (es : List Affine) → IsHull columns (g ∷ ps) ls es → length p ≡ columns → ¬ (InHull (g ∷ ps) p)
    → length (equalities_of columns ((g ∷ ps) ++ p ∷ [])) < length (equalities_of columns (g ∷ ps))
grown_falls columns g p ps ls es h l n =
    let x = next columns g ps ls h.3 p l h.0 in
    let k = hull_is_zero columns g ps ls h.3 h.0 h.1 p l in
    let lines = lines_snoc [] g ps p in
    elim (lead_or (next_line ls (minus p g)).coords) [
      | inl z ↦ absurd (n (k.1 z))
      | inr a ↦ (let free = free_true ls (lead (next_line ls (minus p g)).coords) (lead_free ls (next_line ls (minus p g)).coords a.1 x.zeros) in
          let f = below_falls columns ls (next_line ls (minus p g)) g columns (omega (arith, a.0, x.coords)) free in
          rw lines (rw h.2 at f))
    ]

pub first_falls : (columns : ℕ) (p : List ℤ) → length (equalities_of columns (p ∷ [])) ≤ columns
first_falls columns p = below_le columns [] p columns

pub grown_law : (columns : ℕ) (ms : List (List ℤ)) (ls : List Line) (es : List Affine) (p : List ℤ) (old new : HullOf) → IsHull columns ms ls es → old ≡ record { columns = columns; members = ms } → length p ≡ columns
    → IsGrown old p new → Falls old new
grown_law columns [] ls es p old new h e l g = rw (g.1, e) ((λ _. first_falls columns p), (λ n. absurd (n refl)))
grown_law columns (f ∷ ps) ls es p old new h e l g =
    let n : ¬ (InHull (f ∷ ps) p) = rw e at g.0 in
    rw (g.1, e) ((λ x. absurd cc), (λ _. grown_falls columns f p ps ls es h l n))
