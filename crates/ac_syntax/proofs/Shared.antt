-- The loops that two assignments share are the around_both ones.
use Rattle.std.proofs.Common.{◌≡◌, ℕ, suc, ◌+◌, ◌<◌, ◌≤◌, ◌==◌, List, [], ◌∷◌, Bool, true, false, cond, refl, ap, arith, sum_by}
use Rattle.std.specs.Prelude.{nat_lt}
use Rattle.std.proofs.lemmas.Bool.Decides.{nat_tests}
use Rattle.std.proofs.lemmas.List.Sums.{sum_by-cons}
use Rattle.ac_syntax.specs.Trace.{assignments, assignments_in}
use Rattle.ac_syntax.proofs.Around.{around_both, around_both_in, around_both_all, in_part}
use Rattle.ac_syntax.specs.LoopNests.{loop_count, loop_count_in, loops, loops_in, loops_all, common}
use Rattle.ac_syntax.specs.declared.tree.Stmt.{Stmt, Row_of-Stmt, end_of-Stmt, more_of-Stmt}
use Rattle.ac_syntax.specs.declared.tree.Stmt.TheVariants.{For', If', Assign}

-- the outermost is within
abbrev HeadIn : ℕ → ℕ → List ℕ → Type 0
HeadIn l h [] = Unit {0}
HeadIn l h (x ∷ xs) = (l ≤ x) × (x < h)

head_widen : (l h l' h' : ℕ) (xs : List ℕ) → l' ≤ l → h ≤ h' → HeadIn l h xs → HeadIn l' h' xs
head_widen l h l' h' [] a b k = tt
head_widen l h l' h' (x ∷ xs) a b k = (let c : l ≤ x = k.0 in omega arith, let c : x < h = k.1 in omega arith)

head_if : (l h : ℕ) (b : Bool) (xs ys : List ℕ) → HeadIn l h xs → HeadIn l h ys → HeadIn l h (cond b xs ys)
head_if l h true xs ys a b = a
head_if l h false xs ys a b = b

mutual
  unfolding loops loop_count

  head_loops : (s : Stmt) (first l i : ℕ) → HeadIn l (l + loop_count s) (loops s first l i)
  head_loops (For' iter start cond step n body place) first l i = (omega arith, omega arith)
  head_loops (If' cond n taken m other place) first l i =
      head_if l _ (nat_lt i (first + assignments_in taken)) _ _ (head_widen _ _ _ _ _ (omega arith) (omega arith) (head_loops_in taken first l i)) (head_widen _ _ _ _ _ (omega arith) (omega arith) (head_loops_in other (first + assignments_in taken) (l + loop_count_in taken) i))
  head_loops (Assign array subs value place) first l i = tt

  head_loops_in : {m : _} (k : Row_of-Stmt m) (first l i : ℕ) → HeadIn l (l + loop_count_in k) (loops_in k first l i)
  head_loops_in end_of-Stmt first l i = tt
  head_loops_in (more_of-Stmt s rest) first l i =
      head_if l _ (nat_lt i (first + assignments s)) _ _ (head_widen _ _ _ _ _ (omega arith) (omega arith) (head_loops s first l i)) (head_widen _ _ _ _ _ (omega arith) (omega arith) (head_loops_in rest (first + assignments s) (l + loop_count s) i))

not_equal : (a b : ℕ) → a < b → (a == b) ≡ false
not_equal a b h = grind (arith, nat_tests)

not_equal' : (a b : ℕ) → b < a → (a == b) ≡ false
not_equal' a b h = grind (arith, nat_tests)

equal : (a : ℕ) → (a == a) ≡ true
equal a = grind (arith, nat_tests)

apart : (l m h : ℕ) (xs ys : List ℕ) → HeadIn l m xs → HeadIn m h ys → (common xs ys ≡ 0) × (common ys xs ≡ 0)
apart l m h [] [] a b = (refl, refl)
apart l m h [] (y ∷ ys) a b = (refl, refl)
apart l m h (x ∷ xs) [] a b = (refl, refl)
apart l m h (x ∷ xs) (y ∷ ys) a b = let c : x < m = a.1 in let d : m ≤ y = b.0 in (rw (not_equal x y (omega arith)) refl, rw (not_equal' y x (omega arith)) refl)

-- two parts of a text
parts_common : (a b : Bool) (l m h : ℕ) (xs ys xs' ys' : List ℕ) (c d : ℕ) → HeadIn l m xs → HeadIn l m ys → HeadIn m h xs' → HeadIn m h ys' → common xs ys ≡ c → common xs' ys' ≡ d
    → common (cond a xs xs') (cond b ys ys') ≡ in_part a b c d
parts_common true true l m h xs ys xs' ys' c d i j i' j' e f = e
parts_common true false l m h xs ys xs' ys' c d i j i' j' e f = (apart l m h xs ys' i j').0
parts_common false true l m h xs ys xs' ys' c d i j i' j' e f = (apart l m h ys xs' j i').1
parts_common false false l m h xs ys xs' ys' c d i j i' j' e f = f

mutual
  unfolding loops around_both

  pub common_around : (s : Stmt) (first l i j : ℕ) → common (loops s first l i) (loops s first l j) ≡ around_both s first i j
  common_around (For' iter start cond step n body place) first l i j = rw (equal l) (ap (λ k. suc k) (common_around_in body first (suc l) i j))
  common_around (If' cond n taken m other place) first l i j =
      parts_common (nat_lt i (first + assignments_in taken)) (nat_lt j (first + assignments_in taken)) l (l + loop_count_in taken) _ _ _ _ _ _ _
      (head_loops_in taken first l i) (head_loops_in taken first l j) (head_loops_in other _ _ i) (head_loops_in other _ _ j) (common_around_in taken first l i j) (common_around_in other (first + assignments_in taken) (l + loop_count_in taken) i j)
  common_around (Assign array subs value place) first l i j = refl

  pub common_around_in : {m : _} (k : Row_of-Stmt m) (first l i j : ℕ) → common (loops_in k first l i) (loops_in k first l j) ≡ around_both_in k first i j
  common_around_in end_of-Stmt first l i j = refl
  common_around_in (more_of-Stmt s rest) first l i j =
      parts_common (nat_lt i (first + assignments s)) (nat_lt j (first + assignments s)) l (l + loop_count s) _ _ _ _ _ _ _
      (head_loops s first l i) (head_loops s first l j) (head_loops_in rest _ _ i) (head_loops_in rest _ _ j) (common_around s first l i j) (common_around_in rest (first + assignments s) (l + loop_count s) i j)

head_loops_all : (ss : List Stmt) (first l i : ℕ) → HeadIn l (l + sum_by loop_count ss) (loops_all ss first l i)
head_loops_all [] first l i = tt
head_loops_all (s ∷ ss) first l i =
    head_if l _ (nat_lt i (first + assignments s)) _ _ (head_widen _ _ _ _ _ (omega arith) (omega (arith, sum_by-cons loop_count s ss)) (head_loops s first l i))
    (head_widen _ _ _ _ _ (omega arith) (omega (arith, sum_by-cons loop_count s ss)) (head_loops_all ss (first + assignments s) (l + loop_count s) i))

pub common_around_all : (ss : List Stmt) (first l i j : ℕ) → common (loops_all ss first l i) (loops_all ss first l j) ≡ around_both_all ss first i j
common_around_all [] first l i j = refl
common_around_all (s ∷ ss) first l i j =
    parts_common (nat_lt i (first + assignments s)) (nat_lt j (first + assignments s)) l (l + loop_count s) _ _ _ _ _ _ _
    (head_loops s first l i) (head_loops s first l j) (head_loops_all ss _ _ i) (head_loops_all ss _ _ j) (common_around s first l i j) (common_around_all ss (first + assignments s) (l + loop_count s) i j)
