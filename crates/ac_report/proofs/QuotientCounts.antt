-- How many quotients assignments have, part by part.
use Rattle.std.proofs.Common.{◌≡◌, ℕ, zero, suc, ◌+◌, ◌<◌, ℤ, List, [], ◌∷◌, ◌++◌, length, map, sum_by, inl, inr, true, false, if◌then◌else◌, nat_lt, refl, rules, ap, sym, ◌∙◌, append_assoc, append-nil, arith}
use Rattle.std.specs.List.{flat_map, range_with_len}
use Rattle.std.proofs.lemmas.Bool.{lt-ltb, le-ltb, cases_lt}
use Rattle.std.proofs.lemmas.List.FromFn.{map-range_with_len_more}
use Rattle.std.proofs.lemmas.List.Sums.{sum_by-cons}
use Rattle.ac_syntax.specs.Quotients.{noted_form, noted_parts, noted_subs, noted_value, quotients, quotients_in, quotients_all}
use Rattle.ac_syntax.specs.Trace.{assignments, assignments_in}
use Rattle.ac_syntax.specs.declared.tree.Cond.{Cond}
use Rattle.ac_syntax.specs.declared.tree.IndexExpr.{IndexExpr}
use Rattle.ac_syntax.specs.declared.tree.Place.{Place}
use Rattle.ac_syntax.specs.declared.tree.Quot.{Quot}
use Rattle.ac_syntax.specs.declared.tree.Stmt.{Stmt, Row_of-Stmt, end_of-Stmt, more_of-Stmt, items-the_row-Stmt, the_lemmas}
use Rattle.ac_syntax.specs.declared.tree.Stmt.TheVariants.{For, If, Assign, For', If'}
use Rattle.ac_syntax.specs.declared.tree.Value.{Value}
use Rattle.ac_syntax.proofs.Assignments.{row, assignments_for, assignments_if, assignments_assign}
use Rattle.ac_report.specs.Layouts.{counts_in, quotient_counts}

-- ---- numbers from a later place

same_test : (a first k i : ℕ) → nat_lt (a + i) ((a + first) + k) ≡ nat_lt i (first + k)
same_test a first k i = elim (cases_lt i (first + k)) [
  | inl l ↦ lt-ltb (a + i) ((a + first) + k) (omega (arith, l)) ∙ sym (lt-ltb i (first + k) l)
  | inr l ↦ le-ltb (a + i) ((a + first) + k) (omega (arith, l)) ∙ sym (le-ltb i (first + k) l)
]

mutual
  unfolding quotients

  later : (s : Stmt) (a first : ℕ) (seen : List Quot) (i : ℕ) → quotients s (a + first) seen (a + i) ≡ quotients s first seen i
  later (For' iter start cond step n body place) a first seen i = later_in body a first (noted_parts (noted_form seen start) cond.parts) i
  later (If' cond n taken m other place) a first seen i =
      let around = noted_parts seen cond.parts in
      let k = assignments_in taken in
      let sum : (a + first) + k ≡ a + (first + k) = omega arith in
      let rest : quotients_in other ((a + first) + k) around (a + i) ≡ quotients_in other (first + k) around i = ap (λ f. quotients_in other f around (a + i)) sum ∙ later_in other a (first + k) around i in
      λ j. if same_test a first k i j then later_in taken a first around i j else rest j
  later (Assign array subs value place) a first seen i = refl

  later_in : {m : _} (b : Row_of-Stmt m) (a first : ℕ) (seen : List Quot) (i : ℕ) → quotients_in b (a + first) seen (a + i) ≡ quotients_in b first seen i
  later_in end_of-Stmt a first seen i = refl
  later_in (more_of-Stmt s rest) a first seen i =
      let k = assignments s in
      let sum : (a + first) + k ≡ a + (first + k) = omega arith in
      let behind : quotients_in rest ((a + first) + k) seen (a + i) ≡ quotients_in rest (first + k) seen i = ap (λ f. quotients_in rest f seen (a + i)) sum ∙ later_in rest a (first + k) seen i in
      λ j. if same_test a first k i j then later s a first seen i j else behind j

later_all : (ss : List Stmt) (a first : ℕ) (seen : List Quot) (i : ℕ) → quotients_all ss (a + first) seen (a + i) ≡ quotients_all ss first seen i
later_all [] a first seen i = refl
later_all (s ∷ ss) a first seen i =
    let k = assignments s in
    let sum : (a + first) + k ≡ a + (first + k) = omega arith in
    let behind : quotients_all ss ((a + first) + k) seen (a + i) ≡ quotients_all ss (first + k) seen i = ap (λ f. quotients_all ss f seen (a + i)) sum ∙ later_all ss a (first + k) seen i in
    λ j. if same_test a first k i j then later s a first seen i j else behind j

from_here : (ss : List Stmt) (n : ℕ) (seen : List Quot) (i : ℕ) → quotients_all ss (0 + n) seen (n + i) ≡ quotients_all ss 0 seen i
from_here ss n seen i = let e : 0 + n ≡ n + 0 = omega arith in ap (λ f. quotients_all ss f seen (n + i)) e ∙ later_all ss n 0 seen i

-- ---- two lists one after another

split : {X : Type 0} (f : ℕ → X) (n m : ℕ) → map f (range_with_len 0 (n + m)) ≡ map f (range_with_len 0 n) ++ map (λ i. f (n + i)) (range_with_len 0 m)
split f n zero = let e : n + zero ≡ n = omega arith in ap (λ k. map f (range_with_len 0 k)) e ∙ sym (append-nil (map f (range_with_len 0 n)))
split {X = X} f n (suc m) =
    let e : n + suc m ≡ (n + m) + 1 = omega arith in
    let d : m + 1 ≡ suc m = omega arith in
    let g : ℕ → X = λ i. f (n + i) in
    ap (λ k. map f (range_with_len 0 k)) e ∙ map-range_with_len_more f 0 (n + m) (n + m) (omega arith) ∙ ap (λ x. x ++ f (n + m) ∷ []) (split f n m)
    ∙ append_assoc (map f (range_with_len 0 n)) (map g (range_with_len 0 m)) (f (n + m) ∷ [])
    ∙ ap (λ x. map f (range_with_len 0 n) ++ x) (sym (map-range_with_len_more g 0 m m (omega arith)) ∙ ap (λ k. map g (range_with_len 0 k)) d)

below : {X : Type 0} (f g : ℕ → X) (n : ℕ) → ((i : ℕ) → i < n → f i ≡ g i) → map f (range_with_len 0 n) ≡ map g (range_with_len 0 n)
below f g zero h = refl
below f g (suc n) h =
    let d : suc n ≡ n + 1 = omega arith in
    let last : f n ≡ g n = h n (omega arith) in
    let front = below f g n (λ i l. h i (omega (arith, l))) in
    ap (λ k. map f (range_with_len 0 k)) d ∙ map-range_with_len_more f 0 n n (omega arith) ∙ (λ j. front j ++ last j ∷ []) ∙ sym (map-range_with_len_more g 0 n n (omega arith))
    ∙ ap (λ k. map g (range_with_len 0 k)) (sym d)

two_parts : (n m : ℕ) (g h k : ℕ → List Quot) → ((i : ℕ) → h (n + i) ≡ k i)
    → map (λ i. length (if nat_lt i (0 + n) then g i else h i)) (range_with_len 0 (n + m)) ≡ map (λ i. length (g i)) (range_with_len 0 n) ++ map (λ i. length (k i)) (range_with_len 0 m)
two_parts n m g h k e =
    let f : ℕ → ℕ = λ i. length (if nat_lt i (0 + n) then g i else h i) in
    let front : (i : ℕ) → i < n → f i ≡ length (g i) = λ i l. ap (λ b. length (if b then g i else h i)) (lt-ltb i (0 + n) (omega (arith, l))) in
    let back : (i : ℕ) → f (n + i) ≡ length (k i) = λ i. (ap (λ b. length (if b then g (n + i) else h (n + i))) (le-ltb (n + i) (0 + n) (omega arith)) ∙ ap length (e i)) in
    split f n m ∙ (λ j. below f (λ i. length (g i)) n front j ++ map (λ i. back i j) (range_with_len 0 m))

-- ---- statements part by part

row_all : (m : _) (k : Row_of-Stmt m) (first : ℕ) (seen : List Quot) (i : ℕ) → quotients_in k first seen i ≡ quotients_all (items-the_row-Stmt m k) first seen i
unfolding quotients
row_all m end_of-Stmt first seen i = refl
row_all m (more_of-Stmt {n = n} s rest) first seen i = ap (λ x. if nat_lt i (first + assignments s) then quotients s first seen i else x) (row_all n rest (first + assignments s) seen i)

for_row : (iter : List ℕ) (start : IndexExpr) (cond : Cond) (step : ℤ) (n : _) (body : Row_of-Stmt _) (place : Place) (first : ℕ) (seen : List Quot) (i : ℕ)
    → quotients (For' iter start cond step n body place) first seen i ≡ quotients_all (items-the_row-Stmt _ body) first (noted_parts (noted_form seen start) cond.parts) i
unfolding quotients
for_row iter start cond step n body place first seen i = row_all _ body first (noted_parts (noted_form seen start) cond.parts) i

quotients_for : (iter : List ℕ) (start : IndexExpr) (cond : Cond) (step : ℤ) (body : List Stmt) (place : Place) (first : ℕ) (seen : List Quot) (i : ℕ)
    → quotients (For iter start cond step body place) first seen i ≡ quotients_all body first (noted_parts (noted_form seen start) cond.parts) i
quotients_for iter start cond step body place first seen i = search (rules, the_lemmas, for_row)

abbrev sides : List Stmt → List Stmt → ℕ → List Quot → ℕ → List Quot
sides taken other first around i = if nat_lt i (first + sum_by assignments taken) then quotients_all taken first around i else quotients_all other (first + sum_by assignments taken) around i

if_row : (cond : Cond) (n : _) (taken : Row_of-Stmt _) (m : _) (other : Row_of-Stmt _) (place : Place) (first : ℕ) (seen : List Quot) (i : ℕ)
    → quotients (If' cond n taken m other place) first seen i ≡ sides (items-the_row-Stmt _ taken) (items-the_row-Stmt _ other) first (noted_parts seen cond.parts) i
unfolding quotients
if_row cond n taken m other place first seen i =
    let around = noted_parts seen cond.parts in
    let rest = row_all _ other (first + assignments_in taken) around i ∙ ap (λ k. quotients_all (items-the_row-Stmt _ other) (first + k) around i) (row _ taken) in
    λ j. if nat_lt i (first + row _ taken j) then row_all _ taken first around i j else rest j

quotients_if : (cond : Cond) (taken other : List Stmt) (place : Place) (first : ℕ) (seen : List Quot) (i : ℕ) → quotients (If cond taken other place) first seen i ≡ sides taken other first (noted_parts seen cond.parts) i
quotients_if cond taken other place first seen i = search (rules, the_lemmas, if_row)

-- ---- their counts

all_counts : (seen : List Quot) (ss : List Stmt) → map (λ i. length (quotients_all ss 0 seen i)) (range_with_len 0 (sum_by assignments ss)) ≡ flat_map (counts_in seen) ss
unfolding counts_in
all_counts seen [] = refl
all_counts seen (s ∷ ss) =
    let n = assignments s in
    ap (λ k. map (λ i. length (quotients_all (s ∷ ss) 0 seen i)) (range_with_len 0 k)) (sum_by-cons assignments s ss)
    ∙ two_parts n (sum_by assignments ss) (quotients s 0 seen) (quotients_all ss (0 + n) seen) (quotients_all ss 0 seen) (from_here ss n seen)
    ∙ ap (λ k. counts_in seen s ++ k) (all_counts seen ss)

pub counts_for : (seen : List Quot) (iter : List ℕ) (start : IndexExpr) (cond : Cond) (step : ℤ) (body : List Stmt) (place : Place)
    → counts_in seen (For iter start cond step body place) ≡ flat_map (counts_in (noted_parts (noted_form seen start) cond.parts)) body
unfolding counts_in
counts_for seen iter start cond step body place =
    (λ j. map (λ i. length (quotients_for iter start cond step body place 0 seen i j)) (range_with_len 0 (assignments_for iter start cond step body place j)))
    ∙ all_counts (noted_parts (noted_form seen start) cond.parts) body

pub counts_if : (seen : List Quot) (cond : Cond) (taken other : List Stmt) (place : Place)
    → counts_in seen (If cond taken other place) ≡ flat_map (counts_in (noted_parts seen cond.parts)) taken ++ flat_map (counts_in (noted_parts seen cond.parts)) other
unfolding counts_in
counts_if seen cond taken other place =
    let around = noted_parts seen cond.parts in
    let n = sum_by assignments taken in
    (λ j. map (λ i. length (quotients_if cond taken other place 0 seen i j)) (range_with_len 0 (assignments_if cond taken other place j)))
    ∙ two_parts n (sum_by assignments other) (quotients_all taken 0 around) (quotients_all other (0 + n) around) (quotients_all other 0 around) (from_here other n around)
    ∙ (λ j. all_counts around taken j ++ all_counts around other j)

pub counts_assign : (seen : List Quot) (array : ℕ) (subs : List IndexExpr) (value : Value) (place : Place) → counts_in seen (Assign array subs value place) ≡ length (noted_subs (noted_value seen value) subs) ∷ []
unfolding quotients assignments counts_in
counts_assign seen array subs value place = refl

-- a program's body has nothing around it
pub counts_whole : (body : List Stmt) → flat_map (counts_in []) body ≡ quotient_counts body
counts_whole body = sym (all_counts [] body)

pub ruleset count_steps = (counts_for, counts_if, counts_assign, append_assoc)

pub ruleset whole_steps = (counts_whole)
