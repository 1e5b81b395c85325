-- The trace stands in the order of the counters and the text, and one with a given number and counters stands once.
use Rattle.std.proofs.Common.{◌≡◌, ℕ, zero, suc, ◌+◌, ◌<◌, ◌≤◌, List, [], ◌∷◌, ◌++◌, length, Bool, true, false, cond, refl, sym, ap, ◌∙◌, arith, ℤ, pos, ◌⊎◌, inl, inr, subst, append_assoc, append-nil}
use Rattle.std.specs.Prelude.{nat_lt}
use Rattle.std.specs.List.{AllByRecursion}
use Rattle.std.proofs.lemmas.Bool.Decides.{nat_tests}
use Rattle.std.proofs.lemmas.Int.{ints}
use Rattle.ac_syntax.specs.Index.{Point, index_value, holds}
use Rattle.ac_syntax.specs.Trace.{Entry, each_turn, assignments, assignments_in, trace, trace_in, trace_all}
use Rattle.ac_syntax.specs.Turns.{turns, inside, iterator_at}
use Rattle.ac_syntax.specs.Source.{Writer, Stands}
use Rattle.ac_syntax.proofs.Around.{around_both, around_both_in, around_both_all, in_part}
use Rattle.ac_syntax.specs.ExecutionOrder.{Before}
use Rattle.ac_syntax.specs.declared.tree.Stmt.{Stmt, Row_of-Stmt, end_of-Stmt, more_of-Stmt}
use Rattle.ac_syntax.specs.declared.tree.Stmt.TheVariants.{For', If', Assign}
use Rattle.ac_syntax.proofs.Sources.{earlier_stands, one_place}
use Rattle.ac_syntax.proofs.Pairwise.{AllPairs, every_append, every_map, pairs_append, across, pairs_map, every_turns, pairs_turns}

-- an entry of a part of the text
pub record Within (first n : ℕ) (cs : List ℤ) (e : Entry) : Type 0 where
  pub low : first ≤ e.stmt
  pub high : e.stmt < first + n
  pub rest : List ℤ
  pub counters : e.counters ≡ cs ++ rest

-- two entries in order, below the counters that they share
pub record Ordered (loops : ℕ → ℕ → ℕ) (cs : List ℤ) (e f : Entry) : Type 0 where
  pub x : List ℤ
  pub y : List ℤ
  pub left : e.counters ≡ cs ++ x
  pub right : f.counters ≡ cs ++ y
  pub before : Before (loops e.stmt f.stmt) e.stmt f.stmt x y

pub lt_true : (k n : ℕ) → k < n → nat_lt k n ≡ true
lt_true k n h = grind (arith, nat_tests)

pub lt_false : (k n : ℕ) → n ≤ k → nat_lt k n ≡ false
lt_false k n h = grind (arith, nat_tests)

abbrev parts : ℕ → (ℕ → ℕ → ℕ) → (ℕ → ℕ → ℕ) → ℕ → ℕ → ℕ
parts mid c d i j = in_part (nat_lt i mid) (nat_lt j mid) (c i j) (d i j)

module _ (first n m : ℕ) (cs : List ℤ) (c d : ℕ → ℕ → ℕ) where
  both_low : (e f : Entry) → Within first n cs e → Within first n cs f → Ordered c cs e f → Ordered (parts (first + n) c d) cs e f
  both_low e f a b o = record { x = o.x; y = o.y; left = o.left; right = o.right; before = rw (lt_true e.stmt (first + n) a.high, lt_true f.stmt (first + n) b.high) o.before }

  both_high : (e f : Entry) → Within (first + n) m cs e → Within (first + n) m cs f → Ordered d cs e f → Ordered (parts (first + n) c d) cs e f
  both_high e f a b o = record { x = o.x; y = o.y; left = o.left; right = o.right; before = rw (lt_false e.stmt (first + n) a.low, lt_false f.stmt (first + n) b.low) o.before }

  crossing : (e f : Entry) → Within first n cs e → Within (first + n) m cs f → Ordered (parts (first + n) c d) cs e f
  crossing e f a b = record { x = a.rest; y = b.rest; left = a.counters; right = b.counters; before = rw (lt_true e.stmt (first + n) a.high, lt_false f.stmt (first + n) b.low) (let h : e.stmt < first + n = a.high in let k : first + n ≤ f.stmt = b.low in omega arith) }

  widen_low : (e : Entry) → Within first n cs e → Within first (n + m) cs e
  widen_low e a = record { low = a.low; high = let h : e.stmt < first + n = a.high in omega arith; rest = a.rest; counters = a.counters }

  widen_high : (e : Entry) → Within (first + n) m cs e → Within first (n + m) cs e
  widen_high e a = record { low = let h : first + n ≤ e.stmt = a.low in omega arith; high = let h : e.stmt < first + n + m = a.high in omega arith; rest = a.rest; counters = a.counters }

-- in a turn of a loop
out_of_turn : (first n k : ℕ) (cs : List ℤ) (e : Entry) → Within first n (cs ++ pos k ∷ []) e → Within first n cs e
out_of_turn first n k cs e a = record { low = a.low; high = a.high; rest = pos k ∷ a.rest; counters = a.counters ∙ append_assoc cs (pos k ∷ []) a.rest }

one_turn : (c : ℕ → ℕ → ℕ) (k : ℕ) (cs : List ℤ) (e f : Entry) → Ordered c (cs ++ pos k ∷ []) e f → Ordered (λ i j. suc (c i j)) cs e f
one_turn c k cs e f o = record { x = pos k ∷ o.x; y = pos k ∷ o.y; left = o.left ∙ append_assoc cs (pos k ∷ []) o.x; right = o.right ∙ append_assoc cs (pos k ∷ []) o.y; before = inr (refl, o.before) }

two_turns : (c : ℕ → ℕ → ℕ) (first n k l : ℕ) → k < l → (cs : List ℤ) (e f : Entry) → Within first n (cs ++ pos k ∷ []) e → Within first n (cs ++ pos l ∷ []) f → Ordered (λ i j. suc (c i j)) cs e f
two_turns c first n k l h cs e f a b = record { x = pos k ∷ a.rest; y = pos l ∷ b.rest; left = a.counters ∙ append_assoc cs (pos k ∷ []) a.rest; right = b.counters ∙ append_assoc cs (pos l ∷ []) b.rest; before = inl (omega (arith, ints)) }

pub if_either : {A : Type 0} (P : List A → Type 0) (b : Bool) (xs ys : List A) → P xs → P ys → P (cond b xs ys)
if_either P true xs ys h k = h
if_either P false xs ys h k = k

mutual
  unfolding trace each_turn assignments

  pub within_trace : (s : Stmt) (first : ℕ) (p : Point) (cs : List ℤ) → AllByRecursion (Within first (assignments s) cs) (trace s first p cs)
  within_trace (For' iter start cond step n body place) first p cs =
      every_turns (Within first (assignments_in body) cs) (λ k. trace_in body first (inside p (iterator_at (index_value p start) step k)) (cs ++ pos k ∷ [])) 0 (turns p start cond step)
      (λ k h. every_map _ _ (out_of_turn first (assignments_in body) k cs) _ (within_trace_in body first _ (cs ++ pos k ∷ [])))
  within_trace (If' cond n taken m other place) first p cs =
      if_either (AllByRecursion (Within first (assignments_in taken + assignments_in other) cs)) (holds p cond) _ _
      (every_map _ _ (widen_low first (assignments_in taken) (assignments_in other) cs (λ i j. 0) (λ i j. 0)) _ (within_trace_in taken first p cs))
      (every_map _ _ (widen_high first (assignments_in taken) (assignments_in other) cs (λ i j. 0) (λ i j. 0)) _ (within_trace_in other (first + assignments_in taken) p cs))
  within_trace (Assign array subs value place) first p cs = (record { low = omega arith; high = omega arith; rest = []; counters = sym (append-nil cs) }, tt)

  pub within_trace_in : {m : _} (k : Row_of-Stmt m) (first : ℕ) (p : Point) (cs : List ℤ) → AllByRecursion (Within first (assignments_in k) cs) (trace_in k first p cs)
  within_trace_in end_of-Stmt first p cs = tt
  within_trace_in (more_of-Stmt s rest) first p cs = every_append _ (trace s first p cs) _
      (every_map _ _ (widen_low first (assignments s) (assignments_in rest) cs (λ i j. 0) (λ i j. 0)) _ (within_trace s first p cs))
      (every_map _ _ (widen_high first (assignments s) (assignments_in rest) cs (λ i j. 0) (λ i j. 0)) _ (within_trace_in rest (first + assignments s) p cs))

mutual
  unfolding trace each_turn assignments around_both

  pub ordered_trace : (s : Stmt) (first : ℕ) (p : Point) (cs : List ℤ) → AllPairs (Ordered (around_both s first) cs) (trace s first p cs)
  ordered_trace (For' iter start cond step n body place) first p cs =
      pairs_turns (Ordered (λ i j. suc (around_both_in body first i j)) cs) (λ k. trace_in body first (inside p (iterator_at (index_value p start) step k)) (cs ++ pos k ∷ [])) 0 (turns p start cond step)
      (λ k. pairs_map _ _ _ (λ e f a b. one_turn (around_both_in body first) k cs e f) _ (within_trace_in body first _ (cs ++ pos k ∷ [])) (ordered_trace_in body first _ (cs ++ pos k ∷ [])))
      (λ k l h. across _ _ _ (two_turns (around_both_in body first) first (assignments_in body) k l h cs) _ _ (within_trace_in body first _ (cs ++ pos k ∷ [])) (within_trace_in body first _ (cs ++ pos l ∷ [])))
  ordered_trace (If' cond n taken m other place) first p cs =
      if_either (AllPairs (Ordered (parts (first + assignments_in taken) (around_both_in taken first) (around_both_in other (first + assignments_in taken))) cs)) (holds p cond) _ _
      (pairs_map _ _ _ (both_low first (assignments_in taken) (assignments_in other) cs (around_both_in taken first) (around_both_in other (first + assignments_in taken))) _ (within_trace_in taken first p cs) (ordered_trace_in taken first p cs))
      (pairs_map _ _ _ (both_high first (assignments_in taken) (assignments_in other) cs (around_both_in taken first) (around_both_in other (first + assignments_in taken))) _ (within_trace_in other (first + assignments_in taken) p cs) (ordered_trace_in other (first + assignments_in taken) p cs))
  ordered_trace (Assign array subs value place) first p cs = (tt, tt)

  pub ordered_trace_in : {m : _} (k : Row_of-Stmt m) (first : ℕ) (p : Point) (cs : List ℤ) → AllPairs (Ordered (around_both_in k first) cs) (trace_in k first p cs)
  ordered_trace_in end_of-Stmt first p cs = tt
  ordered_trace_in (more_of-Stmt s rest) first p cs = pairs_append _ (trace s first p cs) _
      (pairs_map _ _ _ (both_low first (assignments s) (assignments_in rest) cs (around_both s first) (around_both_in rest (first + assignments s))) _ (within_trace s first p cs) (ordered_trace s first p cs))
      (pairs_map _ _ _ (both_high first (assignments s) (assignments_in rest) cs (around_both s first) (around_both_in rest (first + assignments s))) _ (within_trace_in rest (first + assignments s) p cs) (ordered_trace_in rest (first + assignments s) p cs))
      (across _ _ _ (crossing first (assignments s) (assignments_in rest) cs (around_both s first) (around_both_in rest (first + assignments s))) _ _ (within_trace s first p cs) (within_trace_in rest (first + assignments s) p cs))

-- the trace of a program
abbrev pub assignments_all : List Stmt → ℕ
assignments_all [] = 0
assignments_all (s ∷ ss) = assignments s + assignments_all ss

pub within_trace_all : (ss : List Stmt) (first : ℕ) (p : Point) (cs : List ℤ) → AllByRecursion (Within first (assignments_all ss) cs) (trace_all ss first p cs)
within_trace_all [] first p cs = tt
within_trace_all (s ∷ ss) first p cs = every_append _ (trace s first p cs) _
    (every_map _ _ (widen_low first (assignments s) (assignments_all ss) cs (λ i j. 0) (λ i j. 0)) _ (within_trace s first p cs))
    (every_map _ _ (widen_high first (assignments s) (assignments_all ss) cs (λ i j. 0) (λ i j. 0)) _ (within_trace_all ss (first + assignments s) p cs))

pub ordered_trace_all : (ss : List Stmt) (first : ℕ) (p : Point) (cs : List ℤ) → AllPairs (Ordered (around_both_all ss first) cs) (trace_all ss first p cs)
ordered_trace_all [] first p cs = tt
ordered_trace_all (s ∷ ss) first p cs = pairs_append _ (trace s first p cs) _
    (pairs_map _ _ _ (both_low first (assignments s) (assignments_all ss) cs (around_both s first) (around_both_all ss (first + assignments s))) _ (within_trace s first p cs) (ordered_trace s first p cs))
    (pairs_map _ _ _ (both_high first (assignments s) (assignments_all ss) cs (around_both s first) (around_both_all ss (first + assignments s))) _ (within_trace_all ss (first + assignments s) p cs) (ordered_trace_all ss (first + assignments s) p cs))
    (across _ _ _ (crossing first (assignments s) (assignments_all ss) cs (around_both s first) (around_both_all ss (first + assignments s))) _ _ (within_trace s first p cs) (within_trace_all ss (first + assignments s) p cs))

-- the order is strict
pub before_irreflexive : (c i : ℕ) (x : List ℤ) → Before c i i x x → ⊥
before_irreflexive zero i x h = omega arith
before_irreflexive (suc c) i [] h = h
before_irreflexive (suc c) i (k ∷ x) (inl h) = omega (arith, ints)
before_irreflexive (suc c) i (k ∷ x) (inr h) = before_irreflexive c i x h.1

pub before_asymmetric : (c i j : ℕ) (x y : List ℤ) → Before c i j x y → Before c j i y x → ⊥
before_asymmetric zero i j x y h k = omega arith
before_asymmetric (suc c) i j [] y h k = h
before_asymmetric (suc c) i j (a ∷ x) [] h k = h
before_asymmetric (suc c) i j (a ∷ x) (b ∷ y) (inl h) (inl k) = omega (arith, ints)
before_asymmetric (suc c) i j (a ∷ x) (b ∷ y) (inl h) (inr k) = let e : b ≡ a = k.0 in omega (arith, ints)
before_asymmetric (suc c) i j (a ∷ x) (b ∷ y) (inr h) (inl k) = let e : a ≡ b = h.0 in omega (arith, ints)
before_asymmetric (suc c) i j (a ∷ x) (b ∷ y) (inr h) (inr k) = before_asymmetric c i j x y h.1 k.1

part_symmetric : (a b : Bool) (c c' d d' : ℕ) → c ≡ c' → d ≡ d' → in_part a b c d ≡ in_part b a c' d'
part_symmetric true true c c' d d' e f = e
part_symmetric true false c c' d d' e f = refl
part_symmetric false true c c' d d' e f = refl
part_symmetric false false c c' d d' e f = f

mutual
  unfolding around_both

  around_both_symmetric : (s : Stmt) (first i j : ℕ) → around_both s first i j ≡ around_both s first j i
  around_both_symmetric (For' iter start cond step n body place) first i j = ap (λ k. suc k) (around_both_in_symmetric body first i j)
  around_both_symmetric (If' cond n taken m other place) first i j = part_symmetric _ _ _ _ _ _ (around_both_in_symmetric taken first i j) (around_both_in_symmetric other (first + assignments_in taken) i j)
  around_both_symmetric (Assign array subs value place) first i j = refl

  around_both_in_symmetric : {m : _} (k : Row_of-Stmt m) (first i j : ℕ) → around_both_in k first i j ≡ around_both_in k first j i
  around_both_in_symmetric end_of-Stmt first i j = refl
  around_both_in_symmetric (more_of-Stmt s rest) first i j = part_symmetric _ _ _ _ _ _ (around_both_symmetric s first i j) (around_both_in_symmetric rest (first + assignments s) i j)

pub around_both_all_symmetric : (ss : List Stmt) (first i j : ℕ) → around_both_all ss first i j ≡ around_both_all ss first j i
around_both_all_symmetric [] first i j = refl
around_both_all_symmetric (s ∷ ss) first i j = part_symmetric _ _ _ _ _ _ (around_both_symmetric s first i j) (around_both_all_symmetric ss (first + assignments s) i j)

-- places in the trace
pairs_at : {A : Type 0} (R : A → A → Type 0) (xs : List A) (x : A) (ys : List A) (y : A) (zs : List A) → AllPairs R (xs ++ (x ∷ (ys ++ (y ∷ zs)))) → R x y
pairs_at {A = A} R [] x ys y zs h = first ys h.0
  where
    first : (ys : List A) → AllByRecursion (R x) (ys ++ y ∷ zs) → R x y
    first [] h = h.0
    first (z ∷ ys) h = first ys h.1
pairs_at R (w ∷ xs) x ys y zs h = pairs_at R xs x ys y zs h.1

ordered_before : (c : ℕ → ℕ → ℕ) (e f : Entry) → Ordered c [] e f → Before (c e.stmt f.stmt) e.stmt f.stmt e.counters f.counters
ordered_before c e f o = rw (o.left, o.right) o.before

-- an entry at an earlier place is before
pub place_before : (body : List Stmt) (p : Point) (w u : Writer) → Stands (trace_all body 0 p []) w → Stands (trace_all body 0 p []) u → length w.earlier < length u.earlier
    → Before (around_both_all body 0 w.entry.stmt u.entry.stmt) w.entry.stmt u.entry.stmt w.entry.counters u.entry.counters
place_before body p w u a b h =
    let c = earlier_stands b a h in
    let e : trace_all body 0 p [] ≡ w.earlier ++ (w.entry ∷ (c.later ++ (u.entry ∷ b.later))) = b.splits ∙ ap (λ (xs : List Entry). xs ++ u.entry ∷ b.later) c.splits ∙ append_assoc w.earlier (w.entry ∷ c.later) (u.entry ∷ b.later) in
    let o = pairs_at _ w.earlier w.entry c.later u.entry b.later (subst (AllPairs (Ordered (around_both_all body 0) [])) e (ordered_trace_all body 0 p [])) in
    ordered_before _ w.entry u.entry o

trichotomy : (a b : ℕ) → ((a < b) ⊎ (b < a)) ⊎ (a ≡ b)
trichotomy zero zero = inr refl
trichotomy zero (suc b) = inl (inl (omega arith))
trichotomy (suc a) zero = inl (inr (omega arith))
trichotomy (suc a) (suc b) = elim (trichotomy a b) as (λ x. ((suc a < suc b) ⊎ (suc b < suc a)) ⊎ (suc a ≡ suc b)) [ inl h ↦ elim h as (λ x. ((suc a < suc b) ⊎ (suc b < suc a)) ⊎ (suc a ≡ suc b)) [ inl h ↦ inl (inl (omega arith)) | inr h ↦ inl (inr (omega arith)) ] | inr h ↦ inr (omega arith) ]

-- and an entry that is before stands at an earlier place
pub before_place : (body : List Stmt) (p : Point) (w u : Writer) → Stands (trace_all body 0 p []) w → Stands (trace_all body 0 p []) u
    → Before (around_both_all body 0 w.entry.stmt u.entry.stmt) w.entry.stmt u.entry.stmt w.entry.counters u.entry.counters → length w.earlier < length u.earlier
before_place body p w u a b h = by (trichotomy (length w.earlier) (length u.earlier))
  where
    by : ((length w.earlier < length u.earlier) ⊎ (length u.earlier < length w.earlier)) ⊎ (length w.earlier ≡ length u.earlier) → length w.earlier < length u.earlier
    by (inl (inl k)) = k
    by (inl (inr k)) = absurd (before_asymmetric (around_both_all body 0 w.entry.stmt u.entry.stmt) w.entry.stmt u.entry.stmt w.entry.counters u.entry.counters h
        (rw (around_both_all_symmetric body 0 w.entry.stmt u.entry.stmt) (place_before body p u w b a k)))
    by (inr k) = let e : w ≡ u = one_place w u a b k in absurd (before_irreflexive _ u.entry.stmt u.entry.counters (rw e at h))

-- one pair of an assignment and counters, one entry
pub one_entry : (body : List Stmt) (p : Point) (w u : Writer) → Stands (trace_all body 0 p []) w → Stands (trace_all body 0 p []) u → w.entry.stmt ≡ u.entry.stmt → w.entry.counters ≡ u.entry.counters → w ≡ u
one_entry body p w u a b i j = by (trichotomy (length w.earlier) (length u.earlier))
  where
    by : ((length w.earlier < length u.earlier) ⊎ (length u.earlier < length w.earlier)) ⊎ (length w.earlier ≡ length u.earlier) → w ≡ u
    by (inl (inl k)) = absurd (before_irreflexive _ u.entry.stmt u.entry.counters (rw (i, j) at (place_before body p w u a b k)))
    by (inl (inr k)) = absurd (before_irreflexive _ u.entry.stmt u.entry.counters (rw (i, j) at (place_before body p u w b a k)))
    by (inr k) = one_place w u a b k
