-- The turns of a loop that are left, and what runs of statements one after another leave.
use Rattle.std.proofs.Common.{◌≡◌, ℕ, zero, suc, ◌+◌, ◌-◌, ◌<◌, ◌≤◌, ◌⊎◌, ⊎_elim, ℤ, pos, ◌+ℤ◌, ◌*ℤ◌, true, true≢false, List, [], ◌∷◌, ◌++◌, Some, length, refl, rules, sym, ap, subst, ◌∙◌, append_assoc, append-nil, length-append, add-one, arith, if◌then◌else◌}
use Rattle.std.specs.List.{flat_map, range_with_len, list_all}
use Rattle.ac_syntax.specs.Index.{Point, point, index_value, holds, comparison_holds}
use Rattle.ac_syntax.specs.Algebra.{Algebra, Cell, run, store, target, value_of}
use Rattle.ac_syntax.specs.Trace.{Entry, trace, trace_all, assignments}
use Rattle.ac_syntax.specs.ReadyPrograms.{ReadyAll}
use Rattle.ac_syntax.specs.Term.{Term, free}
use Rattle.ac_syntax.proofs.TurnEntries.{in_turn_of}
use Rattle.ac_syntax.specs.declared.tree.Comparison.{Comparison}
use Rattle.ac_syntax.specs.Turns.{inside, iterator_at, turns, Bounded}
use Rattle.ac_syntax.specs.declared.tree.Place.{Place}
use Rattle.ac_syntax.specs.declared.tree.IndexExpr.{IndexExpr}
use Rattle.ac_syntax.specs.declared.tree.Cond.{Cond}
use Rattle.ac_syntax.specs.declared.tree.Value.{Value}
use Rattle.ac_syntax.specs.declared.tree.Stmt.{Stmt, Row_of-Stmt, end_of-Stmt, more_of-Stmt, items-the_row-Stmt, the_lemmas}
use Rattle.ac_syntax.specs.declared.tree.Stmt.TheVariants.{For, For', If, If', Assign}
use Rattle.std.proofs.lemmas.Int.{ints}
use Rattle.std.proofs.Math.IntN.{*ℤ-one, pos-+ℤ-pos}
use Rattle.ac_base.proofs.Products.{mul-add_ℤ}
use Rattle.ac_syntax.proofs.Walking.{Walking}
use Rattle.ac_syntax.proofs.Ends.{turns_end}
use Rattle.ac_instance.specs.declared.halt.Side.{Side}
use Rattle.ac_instance.specs.Events.{Event, event, evaluated, index, in_value, in_test, in_turn, in_loop, in_stmt, in_body, in_all}

-- what is left of a loop from the turn k on
unfoldable pub turns_left : Side → (Point → List Event) → Point → IndexExpr → Cond → ℤ → Place → ℕ → List Event
turns_left side body p start cond step place k =
    flat_map (in_turn side body p start cond step place) (range_with_len k (turns p start cond step - k))
    ++ in_test side (inside p (iterator_at (index_value p start) step (turns p start cond step))) cond.parts

pub all_left : (side : Side) (body : Point → List Event) (p : Point) (start : IndexExpr) (cond : Cond) (step : ℤ) (place : Place)
    → in_loop side body p start cond step place ≡ (index side p start) ++ turns_left side body p start cond step place 0
unfolding in_loop turns_left
all_left side body p start cond step place = ap (λ n. index side p start ++ (flat_map (in_turn side body p start cond step place) (range_with_len 0 n) ++ in_test side (inside p (iterator_at (index_value p start) step (turns p start cond step))) cond.parts)) (let e : turns p start cond step ≡ turns p start cond step - 0 = omega arith in e)

flat_map_first : {B : Type 0} (f : ℕ → List B) (k n m : ℕ) → n ≡ suc m → flat_map f (range_with_len k n) ≡ f k ++ flat_map f (range_with_len (k + 1) m)
flat_map_first f k n m e = ap (λ j. flat_map f (range_with_len k j)) e

-- one more turn
pub turn_left : (side : Side) (body : Point → List Event) (p : Point) (start : IndexExpr) (cond : Cond) (step : ℤ) (place : Place) (k : ℕ) → k < turns p start cond step
    → turns_left side body p start cond step place k ≡ in_turn side body p start cond step place k ++ turns_left side body p start cond step place (k + 1)
unfolding turns_left
turn_left side body p start cond step place k lt =
    let n = turns p start cond step in
    let last = in_test side (inside p (iterator_at (index_value p start) step n)) cond.parts in
    let f = in_turn side body p start cond step place in
    let e : n - k ≡ suc (n - (k + 1)) = omega (arith, lt) in
    ap (λ xs. xs ++ last) (flat_map_first f k (n - k) (n - (k + 1)) e) ∙ append_assoc (f k) (flat_map f (range_with_len (k + 1) (n - (k + 1)))) last

-- nothing but the last test
pub none_left : (side : Side) (body : Point → List Event) (p : Point) (start : IndexExpr) (cond : Cond) (step : ℤ) (place : Place) (k : ℕ) → k ≡ turns p start cond step
    → turns_left side body p start cond step place k ≡ in_test side (inside p (iterator_at (index_value p start) step k)) cond.parts
unfolding turns_left
none_left side body p start cond step place k e =
    let n = turns p start cond step in
    let z : n - k ≡ 0 = omega (arith, e) in
    ap (λ j. flat_map (in_turn side body p start cond step place) (range_with_len k j) ++ in_test side (inside p (iterator_at (index_value p start) step n)) cond.parts) z
    ∙ ap (λ j. in_test side (inside p (iterator_at (index_value p start) step j)) cond.parts) (sym e)

-- a turn, part by part
pub turn_parts : (side : Side) (body : Point → List Event) (p : Point) (start : IndexExpr) (cond : Cond) (step : ℤ) (place : Place) (k : ℕ) → k < turns p start cond step
    → turns_left side body p start cond step place k ≡ in_test side (inside p (iterator_at (index_value p start) step k)) cond.parts
    ++ (event ∷ (body (inside p (iterator_at (index_value p start) step k)) ++ (evaluated side place (Some (iterator_at (index_value p start) step (k + 1))) ∷ turns_left side body p start cond step place (k + 1))))
turn_parts side body p start cond step place k lt =
    let at = inside p (iterator_at (index_value p start) step k) in
    let next = evaluated side place (Some (iterator_at (index_value p start) step (k + 1))) in
    let left = turns_left side body p start cond step place (k + 1) in
    let test = in_test side at cond.parts in
    turn_left side body p start cond step place k lt ∙ append_assoc (test ++ (event ∷ body at)) (next ∷ []) left ∙ append_assoc test (event ∷ body at) (next ∷ left)

-- what comes after the test of the turn k
pub test_left : (side : Side) (body : Point → List Event) (p : Point) (start : IndexExpr) (cond : Cond) (step : ℤ) (place : Place) (k : ℕ) → k ≤ turns p start cond step
    → (rest : List Event) × (turns_left side body p start cond step place k ≡ in_test side (inside p (iterator_at (index_value p start) step k)) cond.parts ++ rest)
test_left side body p start cond step place k le = ⊎_elim
    (λ lt. (
      event ∷ (body (inside p (iterator_at (index_value p start) step k)) ++ (evaluated side place (Some (iterator_at (index_value p start) step (k + 1))) ∷ turns_left side body p start cond step place (k + 1))),
      turn_parts side body p start cond step place k lt,
    ))
    (λ e. ([], none_left side body p start cond step place k e ∙ sym (append-nil _)))
    (cases k (turns p start cond step) le)
  where
    cases : (a b : ℕ) → a ≤ b → (a < b) ⊎ (a ≡ b)
    cases a b h = grind arith

-- the condition holds once more, so there is one more turn
pub one_more : (p : Point) (start : IndexExpr) (cond : Cond) (step x : ℤ) (k : ℕ) → Bounded (length p.iters) step cond → Walking p start cond step x k → holds (inside p x) cond ≡ true → k < turns p start cond step
one_more p start cond step x k b w h = ⊎_elim (λ lt. lt) (λ le. absurd (true≢false (sym (at le) ∙ turns_end p start cond step b.bound b.stands b.innermost b.ends b.steady))) (cases k (turns p start cond step))
  where
    cases : (a b : ℕ) → (a < b) ⊎ (b ≤ a)
    cases a b = grind arith

    split : (a b : ℕ) → b ≤ a → (b < a) ⊎ (b ≡ a)
    split a b h = grind arith

    at : turns p start cond step ≤ k → holds (inside p (iterator_at (index_value p start) step (turns p start cond step))) cond ≡ true
    at le = ⊎_elim (λ lt. w.held (turns p start cond step) lt)
        (λ e. ap (λ j. holds (inside p (iterator_at (index_value p start) step j)) cond) e ∙ ap (λ z. holds (inside p z) cond) (sym w.place) ∙ h)
        (split k (turns p start cond step) le)

pub run-append : (a : Algebra) (es fs : List Entry) (state : Cell → a.Carrier) → run a (es ++ fs) state ≡ run a fs (run a es state)
run-append a [] fs state = refl
run-append a (e ∷ es) fs state = run-append a es fs (store (target e) (value_of a e.point state e.value) state)

pub flat_map_last : {A : Type 0} (f : ℕ → List A) (a n : ℕ) → flat_map f (range_with_len a (suc n)) ≡ flat_map f (range_with_len a n) ++ f (a + n)
flat_map_last f a zero = append-nil (f a) ∙ ap f (omega arith)
flat_map_last f a (suc n) =
    ap (λ xs. f a ++ xs) (flat_map_last f (a + 1) n ∙ ap (λ k. flat_map f (range_with_len (a + 1) n) ++ f k) (omega arith)) ∙ sym (append_assoc (f a) (flat_map f (range_with_len (a + 1) n)) (f (a + suc n)))

row : (side : Side) (p : Point) (m : _) (k : Row_of-Stmt m) → in_body side p k ≡ in_all side p (items-the_row-Stmt m k)
unfolding in_stmt
row side p m end_of-Stmt = refl
row side p m (more_of-Stmt {n = n} s rest) = ap (λ xs. in_stmt side p s ++ xs) (row side p n rest)

for_row : (side : Side) (p : Point) (iter : List ℕ) (start : IndexExpr) (cond : Cond) (step : ℤ) (n : _) (body : Row_of-Stmt _) (place : Place)
    → in_stmt side p (For' iter start cond step n body place) ≡ in_loop side (λ q. in_all side q (items-the_row-Stmt _ body)) p start cond step place
unfolding in_stmt
for_row side p iter start cond step n body place = ap (λ f. in_loop side f p start cond step place) (λ i q. row side q _ body i)

pub in_for : (side : Side) (p : Point) (iter : List ℕ) (start : IndexExpr) (cond : Cond) (step : ℤ) (body : List Stmt) (place : Place)
    → in_stmt side p (For iter start cond step body place) ≡ in_loop side (λ q. in_all side q body) p start cond step place
in_for side p iter start cond step body place = search (rules, the_lemmas, for_row)

if_row : (side : Side) (p : Point) (c : Cond) (n : _) (taken : Row_of-Stmt _) (m : _) (other : Row_of-Stmt _) (place : Place)
    → in_stmt side p (If' c n taken m other place) ≡ in_test side p c.parts ++ (if holds p c then in_all side p (items-the_row-Stmt _ taken) else in_all side p (items-the_row-Stmt _ other))
unfolding in_stmt
if_row side p c n taken m other place = λ i. in_test side p c.parts ++ (if holds p c then row side p _ taken i else row side p _ other i)

pub in_if : (side : Side) (p : Point) (c : Cond) (taken other : List Stmt) (place : Place)
    → in_stmt side p (If c taken other place) ≡ in_test side p c.parts ++ (if holds p c then in_all side p taken else in_all side p other)
in_if side p c taken other place = search (rules, the_lemmas, if_row)

pub in_assign : (side : Side) (p : Point) (array : ℕ) (subs : List IndexExpr) (value : Value) (place : Place)
    → in_stmt side p (Assign array subs value place) ≡ in_value side p value ++ flat_map (index side p) subs
unfolding in_stmt
in_assign side p array subs value place = refl

-- where the iterator is x, the test and the body stand inside the loop
pub test_at : (side : Side) (p : Point) (cond : Cond) (parts : List Comparison) (its : List ℤ) (x it : ℤ) → parts ≡ cond.parts → its ≡ p.iters ++ x ∷ [] → x ≡ it
    → in_test side (point p.params its) parts ≡ in_test side (inside p it) cond.parts
test_at side p cond parts its x it h i e = ap (λ l. in_test side (point p.params l) parts) (i ∙ ap (λ z. p.iters ++ z ∷ []) e) ∙ ap (in_test side (inside p it)) h

pub holds_at : (p : Point) (cond : Cond) (parts : List Comparison) (its : List ℤ) (x : ℤ) → parts ≡ cond.parts → its ≡ p.iters ++ x ∷ []
    → list_all (comparison_holds (point p.params its)) parts ≡ holds (inside p x) cond
holds_at p cond parts its x h i = ap (λ l. list_all (comparison_holds (point p.params l)) parts) i ∙ ap (list_all (comparison_holds (inside p x))) h

pub body_at : (side : Side) (p : Point) (body : List Stmt) (its : List ℤ) (x it : ℤ) → its ≡ p.iters ++ x ∷ [] → x ≡ it → in_all side (point p.params its) body ≡ in_all side (inside p it) body
body_at side p body its x it i e = ap (λ l. in_all side (point p.params l) body) (i ∙ ap (λ z. p.iters ++ z ∷ []) e)

pub ready_inside : (ps : ℕ) (iters its : List ℤ) (x : ℤ) (body : List Stmt) → its ≡ iters ++ x ∷ [] → ReadyAll ps (length iters + 1) body → ReadyAll ps (length its) body
ready_inside ps iters its x body i r = let len : length iters + 1 ≡ length its = sym (ap length i ∙ length-append iters (x ∷ [])) in subst (λ n. ReadyAll ps n body) len r

-- the state after one more turn
pub ran_more : (body : List Stmt) (first : ℕ) (p : Point) (start : IndexExpr) (step : ℤ) (counters : List ℤ) (k : ℕ) (its : List ℤ) (x : ℤ) (state : Cell → Term) → its ≡ p.iters ++ x ∷ [] → x ≡ iterator_at (index_value p start) step k
    → run free (trace_all body first (point p.params its) (counters ++ pos k ∷ [])) (run free (flat_map (in_turn_of body first p start step counters) (range_with_len 0 k)) state)
    ≡ run free (flat_map (in_turn_of body first p start step counters) (range_with_len 0 (k + 1))) state
ran_more body first p start step counters k its x state i e =
    let f = in_turn_of body first p start step counters in
    let before = run free (flat_map f (range_with_len 0 k)) state in
    ap (λ l. run free (trace_all body first (point p.params l) (counters ++ pos k ∷ [])) before) (i ∙ ap (λ z. p.iters ++ z ∷ []) e)
    ∙ sym (run-append free (flat_map f (range_with_len 0 k)) (f k) state)
    ∙ ap (λ es. run free es state) (sym (ap (λ n. flat_map f (range_with_len 0 n)) (add-one k) ∙ flat_map_last f 0 k ∙ ap (λ j. flat_map f (range_with_len 0 k) ++ f j) (omega arith)))

-- and after one more statement
pub ran_one : (s : Stmt) (ss : List Stmt) (next : ℕ) (p : Point) (counters : List ℤ) (state : Cell → Term)
    → run free (trace_all (s ∷ ss) next p counters) state ≡ run free (trace_all ss (next + assignments s) p counters) (run free (trace s next p counters) state)
ran_one s ss next p counters state = run-append free (trace s next p counters) (trace_all ss (next + assignments s) p counters) state

-- the iterator of the turn after
pub later : (first step x : ℤ) (k : ℕ) → x ≡ iterator_at first step k → x +ℤ step ≡ iterator_at first step (k + 1)
later first step x k e = omega (arith, ints, e, mul-add_ℤ step (pos k) (pos 1), *ℤ-one step, ap (λ z. step *ℤ z) (pos-+ℤ-pos k 1))
